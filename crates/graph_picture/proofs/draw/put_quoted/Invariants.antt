use Rattle.std.proofs.Common.{◌≡◌, ◌++◌, ◌∷◌, take}
use Rattle.std.specs.List.{flat_map}
use Rattle.graph_picture.specs.Drawing.{escaped_byte_text}
use Rattle.graph_picture.proofs.draw.put_quoted.Given as goal

abbrev pub invariant-loop-byte : goal.invariant-loop-byte
invariant-loop-byte l =
    l.text.items ≡ l.fn.text.items ++ (34 ∷ flat_map escaped_byte_text (take l.byte-index l.byte-items))
