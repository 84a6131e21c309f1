use Rattle.std.proofs.Common.{◌≡◌, ◌-◌, length, map, get_or, []}
use denote.Text.{Utf8}
use denote.Shadow.{shadow}
use Rattle.bp_load.proofs.list_file.file_name.Given as goal

abbrev pub invariant-loop-part : goal.invariant-loop-part
invariant-loop-part l =
    shadow (Utf8 l.name) × (l.name ≡ get_or (map (λ part. part.now) l.yielded) (length l.yielded - 1) [])
