-- Lines are replayed to one thing: no two causes of a fault meet.
use Rattle.std.proofs.Common.{◌≡◌, ◌<◌, ◌≤◌, ◌++◌, ◌∙◌, ℕ, zero, suc, List, [], ◌∷◌, length, Result, Ok, Err}
use Rattle.std.proofs.Common.{refl}
use Rattle.std.proofs.Common.{ap, sym, subst, arith, append-nil, append_assoc, ⊎_elim, ◌⊎◌, inl, inr}
use Rattle.std.proofs.lemmas.Bool.{cases_order}
use Rattle.std.proofs.lemmas.List.{drop_all}
use Rattle.bp_faults.specs.declared.fault.Fault.{Fault}
use Rattle.bp_faults.specs.declared.ids.NodeId.{NodeId}
use Rattle.bp_faults.specs.Phases.{IsOnce}
use Rattle.bp_props.specs.declared.module.Module.{Module}
use Rattle.bp_props.specs.declared.props.Props.{Props}
use Rattle.build_actions.specs.declared.actions.Actions.{Actions}
use Rattle.graph_nodes.specs.declared.graph.Node.{Node}
use Rattle.module_graph.specs.declared.direction.Direction.TheVariants.{BottomUp}
use Rattle.module_graph.specs.Planned.{plan_of}
use Rattle.mutator_rules.specs.declared.config.Config.{Config}
use Rattle.order_text.specs.Laws.{JournalsAreReadBack, OneLines}
use Rattle.serial_pass.specs.declared.plan.Plan.{Plan}
use Rattle.serial_pass.specs.Laws.{AtMostOneOutcome}
use Rattle.serial_pass.specs.Orders.{IsLegal, numbers}
use Rattle.pass_ways.specs.declared.way.OrderLine.{OrderLine}
use Rattle.pass_ways.specs.Laws.{LinesSayOneOrder, OneRefusal, RefusedHaveNoOrder}
use Rattle.pass_ways.specs.OrderFiles.{IsRefused, Say, lines_behind, stopped_at}
use Rattle.pass_ways.specs.Visits.{visits}
use Rattle.bp_pipeline.specs.Endings.{IsFaulty}
use Rattle.bp_pipeline.specs.Generated.{TextMeans, text_within_limit}
use Rattle.bp_pipeline.specs.Journals.{HasRun, IsJournal, IsLegalJournal, plan_at}
use Rattle.bp_pipeline.specs.Laws.{FaultsAreReplayed, JournalsAreReplayed, JournalTextsAreReplayed, OneCourse}
use Rattle.bp_pipeline.specs.Laws.{OneOrder, OneReplay}
use Rattle.bp_pipeline.specs.Mutators.{passes}
use Rattle.bp_pipeline.specs.Replays.{AreJournal, Cause, ReplayMeans}
use Rattle.bp_pipeline.specs.Replays.Cause.{Behind, Faulty, Illegal, TooLarge}
use Rattle.bp_pipeline.proofs.OneGraph.{actions_once, file_once, text_once}
use Rattle.bp_pipeline.proofs.Stepping.{faulty_means, journal_means}
use Rattle.bp_pipeline.proofs.Whole.{faulty_acts, text_faulty}

-- lines that say visits say the first of them
say_first : (lines : List OrderLine) (some more : List (ℕ × NodeId)) → Say lines (some ++ more) → Say lines some
say_first lines [] more say = tt
say_first [] (v ∷ vs) more say = say
say_first (l ∷ ls) (v ∷ vs) more say = (say.0, say_first ls vs more say.1)

apart : {A : Type 0} (value : A) (fault : Fault) → ◌≡◌ {A = Result A Fault} (Ok value) (Err fault) → ⊥
apart value fault is = cc

value_of : {A : Type 0} (x y : A) → ◌≡◌ {A = Result A Fault} (Ok x) (Ok y) → x ≡ y
value_of x y is = cc

fault_of : {A : Type 0} (x y : Fault) → ◌≡◌ {A = Result A Fault} (Err x) (Err y) → x ≡ y
fault_of x y is = cc

-- What visits have of a pass.
record Segment (mods : List Module) (c : Config) (p : ℕ) (journal : List (ℕ × NodeId)) : Type 0 where
  pub nodes : List (Node Props)
  pub earlier : List (ℕ × NodeId)
  pub whole : List (ℕ × NodeId)
  pub more : List (ℕ × NodeId)
  pub mutated : IsJournal mods c p nodes earlier
  pub run : HasRun (plan_at p nodes) (suc p) earlier whole
  pub parts : journal ≡ whole ++ more

longer : (mods : List Module) (c : Config) (p pass : ℕ) (journal after : List (ℕ × NodeId)) (order : List NodeId)
    → after ≡ journal ++ visits pass order → Segment mods c p journal → Segment mods c p after
longer mods c p pass journal after order is s = record {
  nodes = s.nodes;
  earlier = s.earlier;
  whole = s.whole;
  more = s.more ++ visits pass order;
  mutated = s.mutated;
  run = s.run;
  parts =
      is ∙ ap (λ (l : List (ℕ × NodeId)). l ++ visits pass order) s.parts
      ∙ append_assoc s.whole s.more (visits pass order);
}

segment : (mods : List Module) (c : Config) (count p : ℕ) (nodes : List (Node Props)) (journal : List (ℕ × NodeId))
    → p < count → IsJournal mods c count nodes journal → Segment mods c p journal
segment mods c zero p nodes journal below made = absurd (omega (arith, below))
segment mods c (suc count) p nodes journal below made =
    ⊎_elim
    (λ same. subst (λ k. Segment mods c k journal) (sym same)
    (record {
      nodes = made.0;
      earlier = made.1;
      whole = journal;
      more = [];
      mutated = made.2;
      run = made.3;
      parts = sym (append-nil journal);
    }))
    (λ differ. ⊎_elim
    (λ before. longer mods c p (suc count) made.1 journal made.3.order made.3.made
    (segment mods c count p made.0 made.1 before made.2))
    (λ behind. absurd (omega (arith, behind, below)))
    differ)
    (cases_order p count)

legal_segment : (mods : List Module) (c : Config) (p : ℕ) (journal : List (ℕ × NodeId)) → p ≤ passes
    → IsLegalJournal mods c journal → Segment mods c p journal
legal_segment mods c p journal few legal =
    segment_of (cases_order p passes)
  where
    last : p ≡ passes → Segment mods c p journal
    last same =
        subst (λ k. Segment mods c k journal) (sym same)
        (record {
          nodes = legal.nodes;
          earlier = legal.earlier;
          whole = journal;
          more = [];
          mutated = legal.mutated;
          run = legal.acted;
          parts = sym (append-nil journal);
        })

    segment_of : (p ≡ passes) ⊎ ((p < passes) ⊎ (passes < p)) → Segment mods c p journal
    segment_of (inl same) = last same
    segment_of (inr (inl before)) =
        longer mods c p (suc passes) legal.earlier journal legal.acted.order legal.acted.made
        (segment mods c passes p legal.nodes legal.earlier before legal.mutated)
    segment_of (inr (inr behind)) = absurd (omega (arith, behind, few))

module _ (once : OneCourse) (one : AtMostOneOutcome Actions) (one_order : LinesSayOneOrder)
    (no_order : RefusedHaveNoOrder) (one_refusal : OneRefusal) (mods : List Module) (c : Config)
    (lines : List OrderLine) (file : ℕ) where
  same_nodes : (p : ℕ) (nodes others : List (Node Props)) (journal other : List (ℕ × NodeId))
      → IsJournal mods c p nodes journal → IsJournal mods c p others other → nodes ≡ others
  same_nodes p nodes others journal other made made_too =
      value_of nodes others
      (once mods c p (Ok nodes) (Ok others) (journal_means mods c p nodes journal made)
      (journal_means mods c p others other made_too))

  -- the lines say one run of a pass
  same_run : (plan : Plan) (pass : ℕ) (before journal other : List (ℕ × NodeId)) → HasRun plan pass before journal
      → HasRun plan pass before other → Say lines journal → Say lines other → journal ≡ other
  same_run plan pass before journal other run run_too say say_too =
      let same : run.order ≡ run_too.order =
      one_order lines before pass plan run.order run_too.order (subst (Say lines) run.made say) run.legal
      (subst (Say lines) run_too.made say_too) run_too.legal in
      run.made ∙ ap (λ (order : List NodeId). before ++ visits pass order) same ∙ sym run_too.made

  said_before : (plan : Plan) (pass : ℕ) (before after : List (ℕ × NodeId)) → HasRun plan pass before after
      → Say lines after → Say lines before
  said_before plan pass before after run say =
      say_first lines before (visits pass run.order) (subst (Say lines) run.made say)

  -- and one journal of the first passes
  same_journal : (p : ℕ) (nodes others : List (Node Props)) (journal other : List (ℕ × NodeId))
      → IsJournal mods c p nodes journal → IsJournal mods c p others other → Say lines journal → Say lines other
      → journal ≡ other
  same_journal zero nodes others journal other made made_too say say_too = made.1 ∙ sym made_too.1
  same_journal (suc p) nodes others journal other made made_too say say_too =
      let graph = same_nodes p made.0 made_too.0 made.1 made_too.1 made.2 made_too.2 in
      let earlier =
      same_journal p made.0 made_too.0 made.1 made_too.1 made.2 made_too.2
      (said_before (plan_at p made.0) (suc p) made.1 journal made.3 say)
      (said_before (plan_at p made_too.0) (suc p) made_too.1 other made_too.3 say_too) in
      same_run (plan_at p made_too.0) (suc p) made_too.1 journal other
      (subst (λ (l : List (ℕ × NodeId)). HasRun (plan_at p made_too.0) (suc p) l journal) earlier
      (subst (λ (l : List (Node Props)). HasRun (plan_at p l) (suc p) made.1 journal) graph made.3))
      made_too.3 say say_too

  -- and one legal journal
  same_legal : (journal other : List (ℕ × NodeId)) → IsLegalJournal mods c journal → IsLegalJournal mods c other
      → Say lines journal → Say lines other → journal ≡ other
  same_legal journal other legal legal_too say say_too =
      let graph =
      same_nodes passes legal.nodes legal_too.nodes legal.earlier legal_too.earlier legal.mutated legal_too.mutated in
      let earlier =
      same_journal passes legal.nodes legal_too.nodes legal.earlier legal_too.earlier legal.mutated legal_too.mutated
      (said_before (plan_of BottomUp legal.nodes) (suc passes) legal.earlier journal legal.acted say)
      (said_before (plan_of BottomUp legal_too.nodes) (suc passes) legal_too.earlier other legal_too.acted say_too) in
      same_run (plan_of BottomUp legal_too.nodes) (suc passes) legal_too.earlier journal other
      (subst (λ (l : List (ℕ × NodeId)). HasRun (plan_of BottomUp legal_too.nodes) (suc passes) l journal) earlier
      (subst (λ (l : List (Node Props)). HasRun (plan_of BottomUp l) (suc passes) legal.earlier journal) graph
      legal.acted))
      legal_too.acted say say_too

  -- A pass is refused, behind a journal that the lines say.
  module _ (p : ℕ) (nodes : List (Node Props)) (earlier : List (ℕ × NodeId)) (fault : Fault)
      (mutated : IsJournal mods c p nodes earlier)
      (refused : IsRefused lines file earlier (suc p) (plan_at p nodes) fault) where
    refused_said : Say lines earlier
    refused_said = say_first lines earlier (visits (suc p) refused.order) refused.says

    -- so the lines say no run of it
    never_run : (others : List (Node Props)) (before whole : List (ℕ × NodeId)) → IsJournal mods c p others before
        → HasRun (plan_at p others) (suc p) before whole → Say lines whole → ⊥
    never_run others before whole made run say =
        let graph = same_nodes p others nodes before earlier made mutated in
        let visited =
        same_journal p others nodes before earlier made mutated
        (said_before (plan_at p others) (suc p) before whole run say) refused_said in
        no_order lines file earlier (suc p) (plan_at p nodes) fault run.order refused
        (subst (λ (l : List (ℕ × NodeId)). Say lines (l ++ visits (suc p) run.order)) visited
        (subst (Say lines) run.made say))
        (subst (λ (l : List (Node Props)). IsLegal (plan_at p l) (numbers run.order)) graph run.legal)

    never_segment : (journal : List (ℕ × NodeId)) → Say lines journal → Segment mods c p journal → ⊥
    never_segment journal say s =
        never_run s.nodes s.earlier s.whole s.mutated s.run
        (say_first lines s.whole s.more (subst (Say lines) s.parts say))

    never_legal : p ≤ passes → (journal : List (ℕ × NodeId)) → IsLegalJournal mods c journal → Say lines journal → ⊥
    never_legal few journal legal say = never_segment journal say (legal_segment mods c p journal few legal)

    -- and no earlier pass made a fault, nor did this one
    never_faulty : p ≤ passes → (q : ℕ) (whole : List (ℕ × NodeId)) (other : Fault) → IsFaulty mods c q whole other
        → Say lines whole → ⊥
    never_faulty few q whole other faulty say = by (cases_order p q)
      where
        by : (p ≡ q) ⊎ ((p < q) ⊎ (q < p)) → ⊥
        by (inl same) =
            never_run faulty.nodes faulty.earlier whole
            (subst (λ k. IsJournal mods c k faulty.nodes faulty.earlier) (sym same) faulty.mutated)
            (subst (λ k. HasRun (plan_at k faulty.nodes) (suc k) faulty.earlier whole) (sym same) faulty.run) say
        by (inr (inl before)) =
            never_segment faulty.earlier
            (said_before (plan_at q faulty.nodes) (suc q) faulty.earlier whole faulty.run say)
            (segment mods c q p faulty.nodes faulty.earlier before faulty.mutated)
        by (inr (inr behind)) =
            apart nodes other
            (once mods c p (Ok nodes) (Err other) (journal_means mods c p nodes earlier mutated)
            (faulty_means mods c q p whole other behind few faulty))

    never_earlier : (q : ℕ) → p < q → (others : List (Node Props)) (before : List (ℕ × NodeId)) (other : Fault)
        → IsJournal mods c q others before → IsRefused lines file before (suc q) (plan_at q others) other → ⊥
    never_earlier q less others before other made refused_too =
        never_segment before (say_first lines before (visits (suc q) refused_too.order) refused_too.says)
        (segment mods c q p others before less made)

  -- lines that are all a journal have none behind
  no_more : (journal other : List (ℕ × NodeId)) (l : OrderLine) (ls : List OrderLine)
      → AreJournal mods c lines file journal
      → IsLegalJournal mods c other → Say lines other → lines_behind lines other ≡ l ∷ ls → ⊥
  no_more journal other l ls are legal say behind =
      let same = same_legal journal other are.legal legal are.say say in
      let long : length journal ≡ length other = ap (λ (j : List (ℕ × NodeId)). length j) same in
      let all = are.all in
      let none = drop_all (length other) lines (omega (arith, all, long)) in
      let no : [] ≡ l ∷ ls = sym none ∙ behind in
      absurd cc

  illegal_twice : (p q : ℕ) (nodes others : List (Node Props)) (earlier before : List (ℕ × NodeId)) (x y : Fault)
      → IsJournal mods c p nodes earlier → IsRefused lines file earlier (suc p) (plan_at p nodes) x
      → IsJournal mods c q others before → IsRefused lines file before (suc q) (plan_at q others) y → x ≡ y
  illegal_twice p q nodes others earlier before x y made refused made_too refused_too = by (cases_order p q)
    where
      by : (p ≡ q) ⊎ ((p < q) ⊎ (q < p)) → x ≡ y
      by (inl same) =
          let here : IsJournal mods c p others before =
          subst (λ k. IsJournal mods c k others before) (sym same) made_too in
          let there : IsRefused lines file before (suc p) (plan_at p others) y =
          subst (λ k. IsRefused lines file before (suc k) (plan_at k others) y) (sym same) refused_too in
          let graph = same_nodes p others nodes before earlier here made in
          let visited =
          same_journal p others nodes before earlier here made
          (say_first lines before (visits (suc p) there.order) there.says)
          (say_first lines earlier (visits (suc p) refused.order) refused.says) in
          one_refusal lines file earlier (suc p) (plan_at p nodes) x y refused
          (subst (λ (l : List (ℕ × NodeId)). IsRefused lines file l (suc p) (plan_at p nodes) y) visited
          (subst (λ (l : List (Node Props)). IsRefused lines file before (suc p) (plan_at p l) y) graph there))
      by (inr (inl less)) =
          absurd (never_earlier p nodes earlier x made refused q less others before y made_too refused_too)
      by (inr (inr more)) =
          absurd (never_earlier q others before y made_too refused_too p more nodes earlier x made refused)

  same_place : (journal other : List (ℕ × NodeId)) (some more : List OrderLine) → journal ≡ other
      → lines_behind lines journal ≡ some → lines_behind lines other ≡ more
      → stopped_at file (suc (length journal)) some ≡ stopped_at file (suc (length other)) more
  same_place journal other some more same is is_too =
      ap (stopped_at file (suc (length journal))) (sym is)
      ∙ ap (λ (j : List (ℕ × NodeId)). stopped_at file (suc (length j)) (lines_behind lines j)) same
      ∙ ap (stopped_at file (suc (length other))) is_too

  -- no two causes meet
  one_cause : (x y : Fault) → Cause mods c lines file x → Cause mods c lines file y → x ≡ y
  one_cause x y (Faulty p whole faulty say) (Faulty q other faulty_too say_too) =
      fault_of x y
      (actions_once once one mods c (Err x) (Err y) (faulty_acts mods c p whole x faulty)
      (faulty_acts mods c q other y faulty_too))
  one_cause x y (Faulty p whole faulty say) (Illegal q nodes earlier few made refused) =
      absurd (never_faulty q nodes earlier y made refused few p whole x faulty say)
  one_cause x y (Faulty p whole faulty say) (Behind journal made l ls legal acts said behind is) =
      absurd (apart made x
      (actions_once once one mods c (Ok made) (Err x) acts (faulty_acts mods c p whole x faulty)))
  one_cause x y (Faulty p whole faulty say) (TooLarge journal made are means large) =
      absurd (apart made x
      (file_once once one mods c (Ok made) (Err x) means (Err x, faulty_acts mods c p whole x faulty, refl)))
  one_cause x y (Illegal p nodes earlier few made refused) (Faulty q whole faulty say) =
      absurd (never_faulty p nodes earlier x made refused few q whole y faulty say)
  one_cause x y (Illegal p nodes earlier few made refused) (Illegal q others before few_too made_too refused_too) =
      illegal_twice p q nodes others earlier before x y made refused made_too refused_too
  one_cause x y (Illegal p nodes earlier few made refused) (Behind journal acted l ls legal acts said behind is) =
      absurd (never_legal p nodes earlier x made refused few journal legal said)
  one_cause x y (Illegal p nodes earlier few made refused) (TooLarge journal text_within_limit are means large) =
      absurd (never_legal p nodes earlier x made refused few journal are.legal are.say)
  one_cause x y (Behind journal made l ls legal acts said behind is) (Faulty p whole faulty say) =
      absurd (apart made y
      (actions_once once one mods c (Ok made) (Err y) acts (faulty_acts mods c p whole y faulty)))
  one_cause x y (Behind journal acted l ls legal acts said behind is) (Illegal p nodes earlier few made refused) =
      absurd (never_legal p nodes earlier y made refused few journal legal said)
  one_cause x y (Behind journal made l ls legal acts said behind is)
      (Behind other made_too m ms legal_too acts_too said_too behind_too is_too) =
      is
      ∙ same_place journal other (l ∷ ls) (m ∷ ms) (same_legal journal other legal legal_too said said_too) behind
      behind_too
      ∙ sym is_too
  one_cause x y (Behind journal made l ls legal acts said behind is)
      (TooLarge other text_within_limit are means large) =
      absurd (no_more other journal l ls are legal said behind)
  one_cause x y (TooLarge journal made are means large) (Faulty p whole faulty say) =
      absurd (apart made y
      (file_once once one mods c (Ok made) (Err y) means (Err y, faulty_acts mods c p whole y faulty, refl)))
  one_cause x y (TooLarge journal text_within_limit are means large) (Illegal p nodes earlier few made refused) =
      absurd (never_legal p nodes earlier y made refused few journal are.legal are.say)
  one_cause x y (TooLarge other text_within_limit are means large)
      (Behind journal made l ls legal acts said behind is) =
      absurd (no_more other journal l ls are legal said behind)
  one_cause x y (TooLarge journal made are means large) (TooLarge other made_too are_too means_too large_too) =
      let same = value_of made made_too (file_once once one mods c (Ok made) (Ok made_too) means means_too) in
      fault_of x y (sym large ∙ ap text_within_limit same ∙ large_too)

  no_cause : (journal : List (ℕ × NodeId)) → AreJournal mods c lines file journal → (text : List ℕ)
      → TextMeans mods c (Ok text) → (x : Fault) → Cause mods c lines file x → ⊥
  no_cause journal are text job x (Faulty p whole faulty say) =
      apart text x
      (text_once once one mods c (Ok text) (Err x) job (text_faulty mods c x (faulty_acts mods c p whole x faulty)))
  no_cause journal are text job x (Illegal p nodes earlier few made refused) =
      never_legal p nodes earlier x made refused few journal are.legal are.say
  no_cause journal are text job x (Behind other made l ls legal acts said behind is) =
      no_more journal other l ls are legal said behind
  no_cause journal are text job x (TooLarge other made are_too means large) =
      apart text x (text_once once one mods c (Ok text) (Err x) job (Ok made, means, large))

  pub replay_once : IsOnce (ReplayMeans mods c lines file)
  replay_once (Ok text) (Ok other) h k = text_once once one mods c (Ok text) (Ok other) h.1 k.1
  replay_once (Ok text) (Err y) h k = absurd (no_cause h.0.0 h.0.1 text h.1 y k)
  replay_once (Err x) (Ok other) h k = absurd (no_cause k.0.0 k.0.1 other k.1 x h)
  replay_once (Err x) (Err y) h k = ap Err (one_cause x y h k)

module _ (one : OneReplay) where
  pub journals_are_replayed : JournalsAreReplayed
  journals_are_replayed mods c lines file journal text outcome are job means =
      one mods c lines file outcome (Ok text) means ((journal, are), job)

  pub faults_are_replayed : FaultsAreReplayed
  faults_are_replayed mods c lines file p whole fault outcome faulty say means =
      one mods c lines file outcome (Err fault) means (Faulty p whole faulty say)

  module _ (lines_once : OneLines) where
    pub one_order : OneOrder
    one_order mods c order file x y (lines, are, means) (other, are_too, means_too) =
        let same = lines_once order lines other are are_too in
        one mods c lines file x y means
        (subst (λ (l : List OrderLine). ReplayMeans mods c l file y) (sym same) means_too)

pub journal_texts_are_replayed : JournalsAreReadBack → JournalsAreReplayed → JournalTextsAreReplayed
journal_texts_are_replayed back replayed mods c journal text file outcome legal visits job (lines, are, means) =
    let said = back journal lines visits are in
    replayed mods c lines file journal text outcome (record { legal = legal; say = said.0; all = said.1 }) job means
