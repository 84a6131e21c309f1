-- The words in which every layer says what a call answers. Its meaning is a value or a fault.
use Rattle.std.specs.Prelude.{◌≡◌, Result, Ok, Err, ⊤}
use Rattle.bp_faults.specs.declared.fault.Fault.{Fault}
use Rattle.bp_faults.specs.declared.refusal.Refusal.{Refusal}
use Rattle.bp_faults.specs.declared.refusal.Refusal.TheVariants.{Bad, OutOfMemory}

-- A refusal is the fault that is meant, or memory ran out.
abbrev pub Refuses : {V : Type 0} → Refusal → Result V Fault → Type 0
Refuses (Bad fault) meant = meant ≡ Err fault
Refuses OutOfMemory meant = ⊤

-- An answer is the value that is meant, as the view shows it, or a refusal.
abbrev pub Answers : {T V : Type 0} → (T → V) → Result T Refusal → Result V Fault → Type 0
Answers view (Ok value) meant = meant ≡ Ok (view value)
Answers view (Err refusal) meant = Refuses refusal meant

-- The same for a meaning that is a relation: what is meant is any outcome of which `Means` holds.
abbrev pub Tells : {T V : Type 0} → (T → V) → (Result V Fault → Type 0) → Result T Refusal → Type 0
Tells view Means (Ok value) = Means (Ok (view value))
Tells view Means (Err (Bad fault)) = Means (Err fault)
Tells view Means (Err OutOfMemory) = ⊤

-- A step leaves what is meant, as the view shows it, or refuses. After a refusal nothing is said.
abbrev pub Leaves : {T V : Type 0} → (T → V) → T → Result Unit Refusal → Result V Fault → Type 0
Leaves view new (Ok done) meant = meant ≡ Ok (view new)
Leaves view new (Err refusal) meant = Refuses refusal meant

-- One step after another: the first error is the answer.
abbrev pub then_do : {A B E : Type 0} → Result A E → (A → Result B E) → Result B E
then_do (Ok value) next = next value
then_do (Err error) next = Err error
