use Rattle.std.proofs.Common.{◌≡◌, map, take}
use Rattle.std.specs.List.{flat_map}
use Rattle.ninja_file.proofs.well_formed.outs.Given as goal

-- the outs of the first statements are listed
abbrev pub invariant-loop-statement : goal.invariant-loop-statement
invariant-loop-statement l =
    map (λ out. out.now) l.outs.items ≡ flat_map (λ s. s.outs) (take l.statement-index l.statements)
