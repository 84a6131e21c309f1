-- Words that ask for a text name no command.
use Rattle.std.proofs.Common.{◌≡◌, ℕ, Bool, true, false, List, [], ◌∷◌, refl, sym, subst}
use Rattle.std.specs.Prelude.{Option, Some, None, ◌||◌, codes, find, if◌then◌else◌, option_map}
use Rattle.std.specs.Str.{bytes_eq}
use Rattle.std.proofs.lemmas.Slice.Eq.{bytes_eq-Decides}
use Rattle.command_words.specs.declared.command.CommandName.{CommandName}
use Rattle.command_words.specs.declared.command.CommandName.TheVariants.{Build, Replay, Graph, Synth, Format, Edit}
use Rattle.command_words.specs.declared.notices.Notice.{Notice}
use Rattle.command_words.specs.declared.notices.Notice.TheVariants.{Help, Version, Part}
use Rattle.command_words.specs.Notices.{notice_named, notice_of, part_asked, question_of}
use Rattle.command_words.specs.Options.{command_name, command_named, commands}
use Rattle.command_words.specs.Words.{configuration_of}

-- One word is no command line.
abbrev IsNone : List ℕ → Type 0
IsNone word = configuration_of (word ∷ []) ≡ None

spelled : (word spelling : List ℕ) → IsNone spelling → bytes_eq word spelling ≡ true → IsNone word
spelled word spelling none is = subst IsNone (sym ((bytes_eq-Decides word spelling).0 is)) none

either : (P : Type 0) (a b : Bool) → (a ≡ true → P) → (b ≡ true → P) → (a || b) ≡ true → P
either P true b first second is = first refl
either P false b first second is = second is

where_named : (P : Type 0) (b : Bool) (asked notice : Notice) (rest : Option Notice) → (b ≡ true → P)
    → (rest ≡ Some notice → P) → (if b then Some asked else rest) ≡ Some notice → P
where_named P true asked notice rest here there is = here refl
where_named P false asked notice rest here there is = there is

one_word : (word : List ℕ) (notice : Notice) → notice_named word ≡ Some notice → IsNone word
one_word word notice =
    where_named (IsNone word) _ Help notice _
    (either (IsNone word) (bytes_eq word (codes "--help")) _ (spelled word (codes "--help") refl)
    (either (IsNone word) (bytes_eq word (codes "-h")) _ (spelled word (codes "-h") refl)
    (spelled word (codes "help") refl)))
    (where_named (IsNone word) _ Version notice None
    (either (IsNone word) (bytes_eq word (codes "--version")) _ (spelled word (codes "--version") refl)
    (spelled word (codes "-V") refl))
    (λ none. absurd (cc)))

-- ---- two words

found_first : (b : Bool) (test : CommandName → Bool) (x : CommandName) (cs : List CommandName) (c : CommandName)
    → test x ≡ b → (find test cs ≡ Some c → test c ≡ true) → (if b then Some x else find test cs) ≡ Some c
    → test c ≡ true
found_first true test x cs c here rest is =
    let same : x ≡ c = cc in subst (λ (y : CommandName). test y ≡ true) same here
found_first false test x cs c here rest is = rest is

found_passes : (test : CommandName → Bool) (cs : List CommandName) (c : CommandName) → find test cs ≡ Some c
    → test c ≡ true
found_passes test [] c is = absurd (cc)
found_passes test (x ∷ cs) c is = found_first (test x) test x cs c refl (found_passes test cs c) is

-- the word that names a command is its name
name_of : (word : List ℕ) (c : CommandName) → command_named word ≡ Some c → word ≡ command_name c
name_of word c is =
    (bytes_eq-Decides word (command_name c)).0
    (found_passes (λ (x : CommandName). bytes_eq word (command_name x)) commands c is)

behind_name : (c : CommandName) → configuration_of (command_name c ∷ codes "--help" ∷ []) ≡ None
behind_name Build = refl
behind_name Replay = refl
behind_name Graph = refl
behind_name Synth = refl
behind_name Format = refl
behind_name Edit = refl

behind_help : (words : List (List ℕ)) → configuration_of (codes "help" ∷ words) ≡ None
behind_help words = refl

spelled_help : (word : List ℕ) (words : List (List ℕ)) → bytes_eq word (codes "help") ≡ true
    → configuration_of (word ∷ words) ≡ None
spelled_help word words is =
    subst (λ (w : List ℕ). configuration_of (w ∷ words) ≡ None) (sym ((bytes_eq-Decides word (codes "help")).0 is))
    (behind_help words)

spelled_behind : (first second : List ℕ) (c : CommandName) → bytes_eq second (codes "--help") ≡ true
    → command_named first ≡ Some c → configuration_of (first ∷ second ∷ []) ≡ None
spelled_behind first second c is named =
    subst (λ (w : List ℕ). configuration_of (w ∷ second ∷ []) ≡ None) (sym (name_of first c named))
    (subst (λ (w : List ℕ). configuration_of (command_name c ∷ w ∷ []) ≡ None)
    (sym ((bytes_eq-Decides second (codes "--help")).0 is)) (behind_name c))

by_second : (first second : List ℕ) (c : CommandName) (b : Bool) → bytes_eq second (codes "--help") ≡ b
    → (if b then command_named first else None) ≡ Some c → configuration_of (first ∷ second ∷ []) ≡ None
by_second first second c true is named = spelled_behind first second c is named
by_second first second c false is named = absurd (cc)

by_first : (first second : List ℕ) (c : CommandName) (b : Bool) → bytes_eq first (codes "help") ≡ b
    → (if b then command_named second else if bytes_eq second (codes "--help") then command_named first else None)
    ≡ Some c
    → configuration_of (first ∷ second ∷ []) ≡ None
by_first first second c true is named = spelled_help first (second ∷ []) is
by_first first second c false is named = by_second first second c (bytes_eq second (codes "--help")) refl named

two_words : (first second : List ℕ) (x : Option CommandName) (notice : Notice) → part_asked first second ≡ x
    → option_map Part x ≡ Some notice → configuration_of (first ∷ second ∷ []) ≡ None
two_words first second None notice asked is = absurd (cc)
two_words first second (Some c) notice asked is = by_first first second c (bytes_eq first (codes "help")) refl asked

pub no_command : (words : List (List ℕ)) (notice : Notice) → notice_of words ≡ Some notice
    → configuration_of words ≡ None
no_command [] notice is = absurd (cc)
no_command (word ∷ []) notice is = one_word word notice is
no_command (first ∷ second ∷ []) notice is = two_words first second (part_asked first second) notice refl is
no_command (first ∷ second ∷ third ∷ words) notice is = absurd (cc)

question_is : (word other : List ℕ) (words asked : List (List ℕ)) (b : Bool) → bytes_eq word (codes "help") ≡ b
    → (if b then Some (other ∷ words) else None) ≡ Some asked → configuration_of (word ∷ other ∷ words) ≡ None
question_is word other words asked true is some = spelled_help word (other ∷ words) is
question_is word other words asked false is some = absurd (cc)

pub no_question : (words asked : List (List ℕ)) → question_of words ≡ Some asked → configuration_of words ≡ None
no_question [] asked is = absurd (cc)
no_question (word ∷ []) asked is = absurd (cc)
no_question (word ∷ other ∷ words) asked is = question_is word other words asked (bytes_eq word (codes "help")) refl is
