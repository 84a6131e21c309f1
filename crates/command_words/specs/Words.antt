-- The configuration of the words, which are those after the program's name.
use Rattle.std.specs.Prelude.{◌≡◌, ◌≢◌, ◌≤◌, ℕ, List, [], ◌∷◌, Bool, true, ◌&&◌, ◌||◌, not, if◌then◌else◌, ⊤}
use Rattle.std.specs.Prelude.{Option, Some, None, IfSome, find, option_map, option_and_then}
use Rattle.std.specs.List.{AllPairs, list_all, list_any}
use Rattle.std.specs.Str.{bytes_eq}
use Rattle.bp_faults.specs.declared.limits.TheConstants.{MOST_SYNTHETIC_MODULES, MOST_WORKERS}
use Rattle.bp_faults.specs.declared.target.Target.{Target}
use Rattle.bp_faults.specs.declared.target.Target.TheVariants.{AndroidArm64, AndroidArm, LinuxGlibcX86_64}
use Rattle.command_words.specs.declared.command.CommandName.{CommandName}
use Rattle.command_words.specs.declared.command.CommandName.TheVariants.{Build, Replay, Graph, Synth, Format, Edit}
use Rattle.command_words.specs.declared.option.OptionName.{OptionName}
use Rattle.command_words.specs.declared.option.OptionName.TheVariants as option
use Rattle.command_words.specs.declared.pairs.Pair.{Pair}
use Rattle.command_words.specs.declared.configuration.Build.{Build as BuildWords}
use Rattle.command_words.specs.declared.configuration.Configuration.{Configuration}
use Rattle.command_words.specs.declared.configuration.Configuration.TheVariants as configuration
use Rattle.command_words.specs.declared.configuration.Edit.{Edit as EditWords}
use Rattle.command_words.specs.declared.configuration.Graph.{Graph as GraphWords}
use Rattle.command_words.specs.declared.configuration.Replay.{Replay as ReplayWords}
use Rattle.command_words.specs.declared.configuration.Synth.{Synth as SynthWords}
use Rattle.command_words.specs.Once.{has_none_twice}
use Rattle.command_words.specs.Plain.{plain_words}
use Rattle.command_words.specs.Options.{command_named, options_of, is_required, is_same, is_spelling}
use Rattle.command_words.specs.Values.{is_option_value, number_in, targets_of, mutator_number, with_first}
use Rattle.command_words.specs.Values.{is_identifier, is_first_byte, is_further_byte, items_of}

-- The option of a command that the word spells.
abbrev pub option_of : CommandName → List ℕ → Option OptionName
option_of c word = find (λ o. is_spelling o word) (options_of c)

-- An option and its value, where there is such an option.
abbrev pub pair_with : List ℕ → Option OptionName → Option Pair
pair_with value None = None
pair_with value (Some o) = Some (record { option = o; value = value })

-- The words after the command are pairs of an option of that command and a value.
abbrev pub option_pairs : CommandName → List (List ℕ) → Option (List Pair)
option_pairs c [] = Some []
option_pairs c (word ∷ []) = None
option_pairs c (word ∷ value ∷ rest) = with_first (pair_with value (option_of c word)) (option_pairs c rest)

-- The option is given.
abbrev pub has_option : OptionName → List Pair → Bool
has_option o ps = list_any (λ p. is_same p.option o) ps

-- Two pairs are of one option.
abbrev pub is_same_option : Pair → Pair → Bool
is_same_option p q = is_same p.option q.option

-- Each option that the command must have is given.
abbrev pub has_required : CommandName → List Pair → Bool
has_required c ps = list_all (λ o. not (is_required o) || has_option o ps) (options_of c)

-- The pairs are plain: each value is one, no option is given twice, and each that must be given is.
abbrev pub are_plain_pairs : CommandName → List Pair → Bool
are_plain_pairs c ps =
    list_all (λ p. is_option_value p.value) ps && (has_none_twice is_same_option [] ps && has_required c ps)

-- The value of an option, where it is given.
abbrev pub option_value : List Pair → OptionName → Option (List ℕ)
option_value ps o = option_map (λ p. p.value) (find (λ p. is_same p.option o) ps)

-- What is read of a value, or the default where none is given.
abbrev pub read_or : {X Y : Type 0} → Option X → Y → (X → Option Y) → Option Y
read_or None default read = Some default
read_or (Some x) default read = read x

-- What comes of a value, where there is one.
abbrev pub and_then : {X Y : Type 0} → Option X → (X → Option Y) → Option Y
and_then x next = option_and_then next x

-- 1 to 64 workers, and 4 where nothing is said.
abbrev pub workers_of : Option (List ℕ) → Option ℕ
workers_of given = read_or given 4 (number_in 1 MOST_WORKERS)

-- The targets where nothing is said.
abbrev pub default_targets : List Target
default_targets = AndroidArm64 ∷ AndroidArm ∷ LinuxGlibcX86_64 ∷ []

-- The targets of a value, or the default.
abbrev pub targets_or_default : Option (List ℕ) → Option (List Target)
targets_or_default given = read_or given default_targets targets_of

-- The items of a value, or none.
abbrev pub items_or_none : Option (List ℕ) → Option (List (List ℕ))
items_or_none given = read_or given [] items_of

-- OUT differs from the other path, where there is one.
abbrev pub is_other : List ℕ → Option (List ℕ) → Bool
is_other out None = true
is_other out (Some path) = not (bytes_eq out path)

-- The value that each option is given.
abbrev pub Given : Type 0
Given = OptionName → Option (List ℕ)

-- OUT differs from the list and from the journal.
abbrev pub build_with : List ℕ → List ℕ → ℕ → List Target → Option (List ℕ) → Option Configuration
build_with list out workers targets journal =
    if is_other out (Some list) && is_other out journal
    then Some (configuration.Build (record {
      list = list;
      out = out;
      workers = workers;
      targets = targets;
      journal = journal;
    }))
    else None

-- What `build` is given.
abbrev pub build_of : Given → Option Configuration
build_of given =
    and_then (given option.List) (λ list. and_then (given option.Out) (λ out.
    and_then (workers_of (given option.Jobs)) (λ workers.
    and_then (targets_or_default (given option.Targets)) (λ targets.
    build_with list out workers targets (given option.Journal)))))

-- OUT differs from the list and from the order.
abbrev pub replay_with : List ℕ → List ℕ → List ℕ → List Target → Option Configuration
replay_with list out order targets =
    if is_other out (Some list) && is_other out (Some order)
    then Some (configuration.Replay (record { list = list; out = out; order = order; targets = targets }))
    else None

-- What `replay` is given.
abbrev pub replay_of : Given → Option Configuration
replay_of given =
    and_then (given option.List) (λ list. and_then (given option.Out) (λ out.
    and_then (given option.Order) (λ order.
    and_then (targets_or_default (given option.Targets)) (λ targets.
    replay_with list out order targets))))

-- What `graph` is given.
abbrev pub graph_of : Given → Option Configuration
graph_of given =
    and_then (given option.List) (λ list.
    and_then (and_then (given option.After) mutator_number) (λ after.
    and_then (workers_of (given option.Jobs)) (λ workers.
    and_then (targets_or_default (given option.Targets)) (λ targets.
    Some (configuration.Graph (record { list = list; after = after; workers = workers; targets = targets }))))))

-- What `synth` is given.
abbrev pub synth_of : Given → Option Configuration
synth_of given =
    and_then (and_then (given option.Seed) (number_in 0 4294967295)) (λ seed.
    and_then (and_then (given option.Modules) (number_in 1 MOST_SYNTHETIC_MODULES)) (λ modules.
    and_then (workers_of (given option.Jobs)) (λ workers.
    Some (configuration.Synth (record { seed = seed; modules = modules; workers = workers })))))

-- What `fmt` is given. OUT may be the file that is read.
abbrev pub format_of : Given → Option Configuration
format_of given =
    and_then (given option.In) (λ file. and_then (given option.Out) (λ out.
    Some (configuration.Format (record { file = file; out = out }))))

-- The property has a name that a file can have.
abbrev pub edit_with : List ℕ → List ℕ → List ℕ → List ℕ → List (List ℕ) → Option Configuration
edit_with file out name property items =
    if is_identifier property
    then Some (configuration.Edit (record {
      file = file;
      out = out;
      name = name;
      property = property;
      items = items;
    }))
    else None

-- What `edit` is given. OUT may be the file that is read.
abbrev pub edit_of : Given → Option Configuration
edit_of given =
    and_then (given option.In) (λ file. and_then (given option.Out) (λ out.
    and_then (given option.Module) (λ name. and_then (given option.Property) (λ property.
    and_then (items_or_none (given option.Items)) (λ items.
    edit_with file out name property items)))))

-- What a command is given.
abbrev pub configuration_by : CommandName → Given → Option Configuration
configuration_by Build given = build_of given
configuration_by Replay given = replay_of given
configuration_by Graph given = graph_of given
configuration_by Synth given = synth_of given
configuration_by Format given = format_of given
configuration_by Edit given = edit_of given

-- The configuration of a command and its pairs.
abbrev pub configuration_of_pairs : CommandName → List Pair → Option Configuration
configuration_of_pairs c ps = if are_plain_pairs c ps then configuration_by c (option_value ps) else None

-- The configuration of a command and the words behind it.
abbrev pub configuration_behind : List (List ℕ) → CommandName → Option Configuration
configuration_behind words c = and_then (option_pairs c words) (configuration_of_pairs c)

-- The configuration of plain words, of which the first is the command.
abbrev pub configuration_of_plain : List (List ℕ) → Option Configuration
configuration_of_plain [] = None
configuration_of_plain (word ∷ words) = and_then (command_named word) (configuration_behind words)

-- The configuration of the words, or none.
abbrev pub configuration_of : List (List ℕ) → Option Configuration
configuration_of words = configuration_of_plain (plain_words words)

-- What every configuration keeps, so that a caller need not know how words give one.

-- There are 1 to 64 workers.
abbrev pub AreWorkers : ℕ → Type 0
AreWorkers n = (1 ≤ n) × (n ≤ MOST_WORKERS)

-- The targets differ.
abbrev pub AreDistinctTargets : List Target → Type 0
AreDistinctTargets targets = AllPairs (λ a b. a ≢ b) targets

-- An identifier: a letter of ASCII or `_`, and then letters, digits and `_`. So a name of a property is spelled.
abbrev pub IsIdentifier : List ℕ → Type 0
IsIdentifier word =
    (first : ℕ) × (more : List ℕ) × (word ≡ first ∷ more)
    × (is_first_byte first ≡ true) × (list_all is_further_byte more ≡ true)

-- OUT differs from the list and from the journal.
pub record IsSoundBuild (c : BuildWords) : Type 0 where
  pub workers : AreWorkers c.workers
  pub targets : AreDistinctTargets c.targets
  pub list : c.out ≢ c.list
  pub journal : IfSome c.journal (λ journal. c.out ≢ journal)

-- OUT differs from the list and from the order.
pub record IsSoundReplay (c : ReplayWords) : Type 0 where
  pub targets : AreDistinctTargets c.targets
  pub list : c.out ≢ c.list
  pub order : c.out ≢ c.order

-- There are eleven mutators.
pub record IsSoundGraph (c : GraphWords) : Type 0 where
  pub after : c.after ≤ 11
  pub workers : AreWorkers c.workers
  pub targets : AreDistinctTargets c.targets

-- There are 1 to 100,000 modules.
pub record IsSoundSynth (c : SynthWords) : Type 0 where
  pub some : 1 ≤ c.modules
  pub few : c.modules ≤ MOST_SYNTHETIC_MODULES
  pub workers : AreWorkers c.workers

-- The property is an identifier.
pub record IsSoundEdit (c : EditWords) : Type 0 where
  pub property : IsIdentifier c.property

-- What a configuration keeps, by its command.
abbrev pub IsSoundConfiguration : Configuration → Type 0
IsSoundConfiguration (configuration.Build c) = IsSoundBuild c
IsSoundConfiguration (configuration.Replay c) = IsSoundReplay c
IsSoundConfiguration (configuration.Graph c) = IsSoundGraph c
IsSoundConfiguration (configuration.Synth c) = IsSoundSynth c
IsSoundConfiguration (configuration.Format c) = ⊤
IsSoundConfiguration (configuration.Edit c) = IsSoundEdit c
