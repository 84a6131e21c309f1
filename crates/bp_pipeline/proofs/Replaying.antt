-- A replay, and the lines behind all passes.
use Rattle.std.proofs.Common.{◌≡◌, ◌∙◌, ℕ, suc, List, [], ◌∷◌, length, drop, Result, Ok, Err, refl, ap, sym, subst}
use Rattle.std.proofs.Common.{arith}
use Rattle.std.specs.Result.{IsErrAnd}
use Rattle.bp_faults.specs.declared.fault.Fault.{Fault}
use Rattle.bp_faults.specs.declared.ids.NodeId.{NodeId}
use Rattle.bp_faults.specs.declared.refusal.Refusal.{Refusal}
use Rattle.bp_faults.specs.declared.refusal.Refusal.TheVariants.{Bad, OutOfMemory}
use Rattle.bp_faults.specs.Answers.{Refuses, Tells}
use Rattle.bp_props.specs.declared.module.Module.{Module}
use Rattle.build_actions.specs.declared.actions.Actions.{Actions}
use Rattle.build_actions.specs.File.{file_of_actions}
use Rattle.mutator_rules.specs.declared.config.Config.{Config}
use Rattle.ninja_file.specs.declared.file.NinjaFile.{NinjaFile}
use Rattle.pass_ways.specs.declared.way.OrderLine.{OrderLine}
use Rattle.pass_ways.specs.declared.way.OrderLines.{OrderLines}
use Rattle.pass_ways.specs.declared.way.Way.TheVariants.{Lines}
use Rattle.pass_ways.specs.OrderFiles.{Say, lines_behind, stopped_at}
use Rattle.bp_pipeline.specs.Generated.{text_within_limit}
use Rattle.bp_pipeline.specs.Mutators.{passes}
use Rattle.bp_pipeline.specs.Replays.{Cause, ReplayMeans, end_of}
use Rattle.bp_pipeline.specs.Replays.Cause.{Behind, Faulty, Illegal, TooLarge}
use Rattle.bp_pipeline.specs.Runs.{AnswersAll, AreRun, CourseEnds}
use Rattle.bp_pipeline.specs.Runs.CourseEnds.{Faulty as FaultyBy, Refused as RefusedBy}
use Rattle.bp_pipeline.proofs.Whole.{file_means, legal_journal, made_means, text_means}

-- lines that say visits and end behind them are as many
all_said : (file number : ℕ) (lines : List OrderLine) (journal : List (ℕ × NodeId)) → Say lines journal
    → end_of file number (drop (length journal) lines) ≡ Ok tt → length lines ≡ length journal
all_said file number [] [] say ends = refl
all_said file number (l ∷ ls) [] say ends = absurd cc
all_said file number [] (v ∷ vs) say ends = absurd say
all_said file number (l ∷ ls) (v ∷ vs) say ends = ap suc (all_said file number ls vs say.1 ends)

module _ {T : Type 0} (view : T → List ℕ) (mods : List Module) (c : Config) (way_lines : OrderLines) where
  abbrev lines : List OrderLine
  lines = way_lines.lines.now

  abbrev file : ℕ
  file = way_lines.file

  abbrev Told : Result T Refusal → Type 0
  Told = Tells view (ReplayMeans mods c lines file)

  err_is : (e : Refusal) (r : Result T Refusal) → IsErrAnd r (λ x. x ≡ e) → Told (Err e) → Told r
  err_is e (Ok text) same told = absurd same
  err_is e (Err x) same told = subst (λ (y : Refusal). Told (Err y)) (sym same) told

  passes_end : {G : Type 0} (fault : Fault) → CourseEnds {G = G} mods c (Lines way_lines) (suc passes) fault
      → Cause mods c lines file fault
  passes_end fault (FaultyBy p whole below faulty follows) = Faulty p whole faulty follows
  passes_end fault (RefusedBy p nodes earlier below mutated refuses) =
      Illegal p nodes earlier (omega (arith, below)) mutated refuses

  all_end : (G : Type 0) (e : Refusal) → AnswersAll {G = G} mods c (Lines way_lines) (Err e) → Told (Err e)
  all_end G (Bad fault) ends = passes_end fault ends
  all_end G OutOfMemory ends = tt

  -- the passes end with a fault, and the replay with them
  pub replay_refused : (G : Type 0) (e : Refusal) (r : Result T Refusal) → IsErrAnd r (λ x. x ≡ e)
      → AnswersAll {G = G} mods c (Lines way_lines) (Err e) → Told r
  replay_refused G e r same ends = err_is e r same (all_end G e ends)

  module _ {G : Type 0} (journal : List (ℕ × NodeId)) (made : List Actions)
      (run : AreRun {G = G} mods c (Lines way_lines) journal made) (count : ℕ)
      (all : count ≡ length journal) where
    line_behind : (fault : Fault) (left : List OrderLine) → lines_behind lines journal ≡ left
        → end_of file (suc (length journal)) left ≡ Err fault → Cause mods c lines file fault
    line_behind fault [] is ends = absurd cc
    line_behind fault (l ∷ ls) is ends =
        let told : fault ≡ stopped_at file (suc (length journal)) (l ∷ ls) = cc in
        Behind journal made l ls (legal_journal mods c (Lines way_lines) journal made run)
        (made_means mods c (Lines way_lines) journal made run) run.follows is told

    end_at : end_of file (suc count) (drop count lines)
        ≡ end_of file (suc (length journal)) (lines_behind lines journal)
    end_at = ap (λ k. end_of file (suc k) (drop k lines)) all

    behind_end : (e : Refusal) → Refuses e (end_of file (suc count) (drop count lines)) → Told (Err e)
    behind_end (Bad fault) ends = line_behind fault (lines_behind lines journal) refl (sym end_at ∙ ends)
    behind_end OutOfMemory ends = tt

    -- a line stands behind all passes
    pub replay_behind : (e : Refusal) (r : Result T Refusal) → IsErrAnd r (λ x. x ≡ e)
        → Refuses e (end_of file (suc count) (drop count lines)) → Told r
    replay_behind e r same ends = err_is e r same (behind_end e ends)

    -- none does, and the text tells the replay
    pub replay_told : end_of file (suc count) (drop count lines) ≡ Ok tt → (made_file : NinjaFile)
        → made_file ≡ file_of_actions made → (r : Result T Refusal)
        → Tells view (λ outcome. text_within_limit made_file ≡ outcome) r
        → Told r
    replay_told ends made_file is (Ok text) told = (
      (
        journal,
        record {
          legal = legal_journal mods c (Lines way_lines) journal made run;
          say = run.follows;
          all =
              all_said file (suc (length journal)) lines journal run.follows (sym end_at ∙ ends);
        },
      ),
      text_means mods c (Lines way_lines) journal made run made_file is (Ok (view text)) told,
    )
    replay_told ends made_file is (Err (Bad fault)) told =
        TooLarge journal made_file
        (record {
          legal = legal_journal mods c (Lines way_lines) journal made run;
          say = run.follows;
          all =
              all_said file (suc (length journal)) lines journal run.follows (sym end_at ∙ ends);
        })
        (file_means mods c (Lines way_lines) journal made run made_file is) told
    replay_told ends made_file is (Err OutOfMemory) told = tt
