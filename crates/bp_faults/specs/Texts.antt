-- Texts as the lists of their bytes.
use Rattle.std.specs.Prelude.{ℕ, List, string_bytes}
use Rattle.bp_faults.specs.declared.text.Form.{Form}
use Rattle.bp_faults.specs.declared.text.Form.TheVariants.{Short, Long}

-- The bytes of a text, wherever they are.
abbrev pub form_bytes : Form → List ℕ
form_bytes (Short alloc text) = text.bytes
form_bytes (Long text) = string_bytes text
