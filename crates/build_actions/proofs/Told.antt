-- Outputs of nodes that are told apart by their names.
use Rattle.std.proofs.Common.{◌≡◌, ◌≢◌, ◌<◌, ◌++◌, ◌⊎◌, inl, inr, ℕ, List, [], ◌∷◌, ◌||◌, ◌==◌, Bool, true, false}
use Rattle.std.proofs.Common.{length, drop, get_or, Option, Some, None, Ok, refl, sym, ap, subst, ◌∙◌, append_assoc}
use Rattle.std.proofs.Common.{arith}
use Rattle.std.specs.Prelude.{codes, slice_get}
use Rattle.std.specs.Option.{option_map_or}
use Rattle.std.specs.List.{AllByRecursion, AllPairs, flat_map}
use Rattle.std.proofs.lemmas.Bool.{cases_order}
use Rattle.std.proofs.lemmas.List.{append_cancel_left}
use Rattle.std.proofs.lemmas.Option.{slice_get_within, get_or_from_slice_get}
use Rattle.std.proofs.lemmas.Grind.{flat_map-append}
use Rattle.bp_faults.specs.declared.place.Item.{Item}
use Rattle.bp_faults.proofs.Lists.{all_append, Apart, apart_pairs, pairs_apart, apart_append, all_map}
use Rattle.graph_nodes.specs.declared.graph.Node.{Node}
use Rattle.std.proofs.lemmas.Bool.Decides.{nat_tests}
use Rattle.std.proofs.lemmas.List.Elements.{All-from_recursion, recursion_from_All}
use Rattle.graph_nodes.specs.Names.{is_label_byte, variant_name_of}
use Rattle.graph_nodes.specs.Laws.{VariantNamesArePlain}
use Rattle.build_parts.specs.declared.path.Role.{Role}
use Rattle.build_parts.specs.declared.path.Role.TheVariants.{Makes, Gives, Neither}
use Rattle.build_parts.specs.declared.path.Product.{Product}
use Rattle.build_parts.specs.declared.path.Product.TheVariants.{Archive, SharedObject, Program}
use Rattle.build_parts.specs.Sources.{sources_checked}
use Rattle.build_parts.specs.Paths.{output_directory, object_path, output_path, product_of, link_variation}
use Rattle.build_parts.specs.Paths.{product_suffix, role_of}
use Rattle.build_actions.specs.Variants.{AreOnAxes}
use Rattle.build_actions.proofs.Variants.{told_by_name}
use Rattle.bp_props.specs.declared.module.Module.{Module}
use Rattle.bp_props.specs.declared.props.Props.{Props}
use Rattle.ninja_file.specs.declared.file.Statement.{Statement}
use Rattle.ninja_file.specs.Meaning.{AllDiffer, outs_of}
use Rattle.build_actions.specs.declared.actions.Actions.{Actions}
use Rattle.build_actions.specs.Files.{files_of}
use Rattle.build_actions.specs.Compiles.{compiler_of, compile_steps, objects_in}
use Rattle.build_actions.specs.Products.{product_step}
use Rattle.build_actions.specs.Acts.{files_alone, objects_of, made_of, acts_by, acts, acts_at}
use Rattle.build_actions.specs.File.{all_path, all_step, file_of_actions}
use Rattle.build_actions.specs.Laws.{has_slash, AreTold, made_below, AreMade}
use Rattle.build_actions.proofs.Differing.{Across, apart_flat, all_flat}
use Rattle.build_actions.proofs.Separated.{before_it}
use Rattle.build_actions.proofs.Outputs.{Differ, then_ok, objects_differ, objects_all, compiles_outs}

abbrev pub outs : List Statement → List (List ℕ)
outs statements = flat_map (λ (s : Statement). s.outs) statements

abbrev pub node_outs : Actions → List (List ℕ)
node_outs made = outs made.statements

-- Two texts are one where what stands before their first slashes is one and what stands behind.
before_slash : (a b r s : List ℕ) → has_slash a ≡ false → has_slash b ≡ false → a ++ 47 ∷ r ≡ b ++ 47 ∷ s
    → (a ≡ b) × (r ≡ s)
before_slash a b r s ha hb e =
    let same = before_it 47 a b (47 ∷ r) (47 ∷ s) ha hb refl refl e in
    let rest : 47 ∷ r ≡ 47 ∷ s = append_cancel_left a (47 ∷ r) (47 ∷ s) (e ∙ ap (λ l. l ++ 47 ∷ s) (sym same)) in
    (same, ap (drop 1) rest)

-- A path below the directory of a variant, as two names between slashes.
spread : (m : Module) (x : Node Props) (rest : List ℕ)
    → output_directory m x ++ 47 ∷ rest ≡ codes "out/m/" ++ (m.name ++ 47 ∷ (variant_name_of x.vars ++ 47 ∷ rest))
spread m x rest = ap (λ l. codes "out/m/" ++ l) (append_assoc m.name (codes "/" ++ variant_name_of x.vars) (47 ∷ rest))

-- an output of a variant
pub record IsBelow (m : Module) (x : Node Props) (out : List ℕ) : Type 0 where
  pub rest : List ℕ
  pub is : out ≡ output_directory m x ++ 47 ∷ rest

step_outs : (ms : List Module) (nodes : List (Node Props)) (x : Node Props) (product : Product) (out : List ℕ)
    (objects : List (List ℕ)) → outs (product_step ms nodes x product out objects ∷ []) ≡ out ∷ []
step_outs ms nodes x Archive out objects = refl
step_outs ms nodes x SharedObject out objects = refl
step_outs ms nodes x Program out objects = refl

made_outs : (ms : List Module) (nodes : List (Node Props)) (m : Module) (x : Node Props) (ins : List Actions)
    (files : List Item)
    → node_outs (made_of ms nodes m x ins files) ≡ objects_in (output_directory m x) files ++ output_path m x ∷ []
made_outs ms nodes m x ins files =
    let step = product_step ms nodes x (product_of (link_variation x)) (output_path m x)
    (objects_of (output_directory m x) x ins files) in
    flat_map-append (λ (s : Statement). s.outs) (compile_steps (compiler_of m x files) files) (step ∷ [])
    ∙ (λ k. compiles_outs (compiler_of m x files) files k ++ step_outs ms nodes x (product_of (link_variation x))
    (output_path m x) (objects_of (output_directory m x) x ins files) k)

object_below : (m : Module) (x : Node Props) (p : List ℕ) → IsBelow m x (object_path (output_directory m x) p)
object_below m x p = record { rest = codes "obj/" ++ (p ++ codes ".o"); is = refl }

output_below : (m : Module) (x : Node Props) → IsBelow m x (output_path m x)
output_below m x = record {
  rest = codes "bin/" ++ (m.name ++ product_suffix (product_of (link_variation x)));
  is = refl;
}

unlike : (a b : ℕ) → b < a → a ≡ b → ⊥
unlike a b less same = omega arith

-- an object is no output
object_no_output : (m : Module) (x : Node Props) (p : List ℕ)
    → Differ (object_path (output_directory m x) p) (output_path m x)
object_no_output m x p same =
    let e = append_cancel_left (output_directory m x) (codes "/obj/" ++ (p ++ codes ".o"))
    (codes "/bin/" ++ (m.name ++ product_suffix (product_of (link_variation x)))) same in
    unlike 111 98 (omega arith) (ap (λ l. get_or l 1 0) e)

-- the outputs of a node of a module
pub record Outputs (m : Module) (x : Node Props) (made : Actions) : Type 0 where
  pub below : AllByRecursion (IsBelow m x) (node_outs made)
  pub differ : Apart Differ (node_outs made)

made_outputs : (ms : List Module) (nodes : List (Node Props)) (m : Module) (x : Node Props) (ins : List Actions)
    (files : List Item) → sources_checked [] files ≡ Ok tt → Outputs m x (made_of ms nodes m x ins files)
made_outputs ms nodes m x ins files checked =
    let is = sym (made_outs ms nodes m x ins files) in
    record {
      below =
          subst (λ l. AllByRecursion (IsBelow m x) l) is
          (all_append (IsBelow m x) (objects_in (output_directory m x) files) (output_path m x ∷ [])
          (objects_all (IsBelow m x) (output_directory m x) (object_below m x) files) (output_below m x, tt));
      differ = subst (λ l. Apart Differ l) is
          (apart_append Differ (objects_in (output_directory m x) files) (output_path m x ∷ [])
          (objects_differ (output_directory m x) files checked) (tt, tt)
          (objects_all (λ o. AllByRecursion (Differ o) (output_path m x ∷ [])) (output_directory m x)
          (λ p. (object_no_output m x p, tt)) files));
    }

idle_outputs : (m : Module) (x : Node Props) (files : List Item) → Outputs m x (files_alone files)
idle_outputs m x files = record { below = tt; differ = tt }

acts_outputs : (ms : List Module) (nodes : List (Node Props)) (m : Module) (x : Node Props) (ins : List Actions)
    (made : Actions) (role : Role) → acts_by ms nodes role m x ins ≡ Ok made → Outputs m x made
acts_outputs ms nodes m x ins made Neither h =
    let same : files_alone [] ≡ made = cc in subst (Outputs m x) same (idle_outputs m x [])
acts_outputs ms nodes m x ins made Gives h =
    let same : files_alone (files_of ms nodes x ins) ≡ made = cc in
    subst (Outputs m x) same (idle_outputs m x (files_of ms nodes x ins))
acts_outputs ms nodes m x ins made Makes h =
    let files = files_of ms nodes x ins in
    let ok = then_ok (sources_checked [] files) (λ done. Ok (made_of ms nodes m x ins files)) made h in
    let same : made_of ms nodes m x ins files ≡ made = cc in
    subst (Outputs m x) same (made_outputs ms nodes m x ins files ok.1)

module _ (ms : List Module) (nodes : List (Node Props)) where
  -- an output of node n
  pub record IsOf (n : ℕ) (out : List ℕ) : Type 0 where
    pub m : Module
    pub x : Node Props
    pub node : slice_get nodes n ≡ Some x
    pub owner : slice_get ms x.module.0 ≡ Some m
    pub below : IsBelow m x out

  pub record OutputsOf (n : ℕ) (made : Actions) : Type 0 where
    pub each : AllByRecursion (IsOf n) (node_outs made)
    pub differ : Apart Differ (node_outs made)

  nothing : (n : ℕ) (made : Actions) → files_alone [] ≡ made → OutputsOf n made
  nothing n made same = subst (OutputsOf n) same (record { each = tt; differ = tt })

  pub outputs_at_node : (n : ℕ) (ins : List Actions) (made : Actions) → acts_at ms nodes n ins ≡ Ok made
      → OutputsOf n made
  outputs_at_node n ins made h = by_node (slice_get nodes n) refl h
    where
      by_owner : (x : Node Props) → slice_get nodes n ≡ Some x → (o : Option Module) → slice_get ms x.module.0 ≡ o
          → option_map_or (λ m. acts ms nodes m x ins) o (Ok (files_alone [])) ≡ Ok made → OutputsOf n made
      by_owner x node None e k = nothing n made (let same : files_alone [] ≡ made = cc in same)
      by_owner x node (Some m) e k =
          let o = acts_outputs ms nodes m x ins made (role_of m.kind) k in
          record {
            each =
                all_map (IsBelow m x) (IsOf n) (λ out b. record { m = m; x = x; node = node; owner = e; below = b })
                (node_outs made) o.below;
            differ = o.differ;
          }

      by_node : (o : Option (Node Props)) → slice_get nodes n ≡ o
          → option_map_or (λ (x : Node Props). option_map_or (λ m. acts ms nodes m x ins) (slice_get ms x.module.0)
          (Ok (files_alone []))) o (Ok (files_alone [])) ≡ Ok made → OutputsOf n made
      by_node None e k = nothing n made (let same : files_alone [] ≡ made = cc in same)
      by_node (Some x) e k = by_owner x e (slice_get ms x.module.0) refl k

  -- Each node is told by its module's name and its variant's.
  pub record AreNamed : Type 0 where
    pub names : AllByRecursion (λ (m : Module). has_slash m.name ≡ false) ms
    pub names_differ : AllPairs (λ (a b : Module). a.name ≢ b.name) ms
    pub variants : AllByRecursion (λ (x : Node Props). has_slash (variant_name_of x.vars) ≡ false) nodes
    pub variants_differ : AllPairs (λ (x y : Node Props). x.module ≡ y.module
        → variant_name_of x.vars ≢ variant_name_of y.vars) nodes

  plain_free : (text : List ℕ) → AllByRecursion (λ c. is_label_byte c ≡ true) text → has_slash text ≡ false
  plain_free [] h = refl
  plain_free (c ∷ text) h = by (c == 47) refl (plain_free text h.1)
    where
      by : (b : Bool) → (c == 47) ≡ b → has_slash text ≡ false → (b || has_slash text) ≡ false
      by false e on = on
      by true e on = absurd (let is : c ≡ 47 = grind (arith, nat_tests) in no (ap is_label_byte (sym is) ∙ h.0))
        where
          no : false ≡ true → ⊥
          no e = cc

  variants_free : VariantNamesArePlain → (xs : List (Node Props))
      → AllByRecursion (λ (x : Node Props). has_slash (variant_name_of x.vars) ≡ false) xs
  variants_free plain [] = tt
  variants_free plain (x ∷ xs) = (plain_free (variant_name_of x.vars) (plain x.vars), variants_free plain xs)

  pub named : VariantNamesArePlain → AreTold ms nodes → AreNamed
  named plain told = record {
    names = told.names;
    names_differ = told.names_differ;
    variants = variants_free plain nodes;
    variants_differ = λ i j d lt within owner same.
        told.distinct i j d lt within owner
        (told_by_name (get_or nodes i d).vars (get_or nodes j d).vars
        (All-from_recursion (λ (x : Node Props). AreOnAxes x.vars) nodes told.on_axes i d (omega arith))
        (All-from_recursion (λ (x : Node Props). AreOnAxes x.vars) nodes told.on_axes j d within) same);
  }

  module _ (told : AreNamed) where
    name_free : (p : ℕ) (m : Module) → slice_get ms p ≡ Some m → has_slash m.name ≡ false
    name_free p m is =
        subst (λ (a : Module). has_slash a.name ≡ false) (get_or_from_slice_get ms p m m is)
        (All-from_recursion (λ (a : Module). has_slash a.name ≡ false) ms told.names p m (slice_get_within ms p m is))

    variant_free : (n : ℕ) (x : Node Props) → slice_get nodes n ≡ Some x → has_slash (variant_name_of x.vars) ≡ false
    variant_free n x is =
        subst (λ (y : Node Props). has_slash (variant_name_of y.vars) ≡ false) (get_or_from_slice_get nodes n x x is)
        (All-from_recursion (λ (y : Node Props). has_slash (variant_name_of y.vars) ≡ false) nodes told.variants n x
        (slice_get_within nodes n x is))

    names_apart : (p q : ℕ) (a b : Module) → slice_get ms p ≡ Some a → slice_get ms q ≡ Some b → p < q → a.name ≢ b.name
    names_apart p q a b ha hb lt =
        subst (λ (z : Module). z.name ≢ b.name) (get_or_from_slice_get ms p a a ha)
        (subst (λ (z : Module). (get_or ms p a).name ≢ z.name) (get_or_from_slice_get ms q b a hb)
        (told.names_differ p q a lt (slice_get_within ms q b hb)))

    -- a name is that of one module
    one_index : (p q : ℕ) (a b : Module) → slice_get ms p ≡ Some a → slice_get ms q ≡ Some b → a.name ≡ b.name → p ≡ q
    one_index p q a b ha hb same = by (cases_order p q)
      where
        by : (p ≡ q) ⊎ ((p < q) ⊎ (q < p)) → p ≡ q
        by (inl e) = e
        by (inr (inl lt)) = absurd (names_apart p q a b ha hb lt same)
        by (inr (inr lt)) = absurd (names_apart q p b a hb ha lt (sym same))

    variants_apart : (i j : ℕ) (x y : Node Props) → slice_get nodes i ≡ Some x → slice_get nodes j ≡ Some y → i < j
        → x.module ≡ y.module → variant_name_of x.vars ≢ variant_name_of y.vars
    variants_apart i j x y hx hy lt =
        subst (λ (z : Node Props). z.module ≡ y.module → variant_name_of z.vars ≢ variant_name_of y.vars)
        (get_or_from_slice_get nodes i x x hx)
        (subst (λ (z : Node Props). (get_or nodes i x).module ≡ z.module
        → variant_name_of (get_or nodes i x).vars ≢ variant_name_of z.vars) (get_or_from_slice_get nodes j y x hy)
        (told.variants_differ i j x lt (slice_get_within nodes j y hy)))

    -- Outputs of different nodes differ.
    pub nodes_apart : (i j : ℕ) (o p : List ℕ) → i < j → IsOf i o → IsOf j p → Differ o p
    nodes_apart i j o p lt a b same =
        let whole =
        append_cancel_left (codes "out/m/") (a.m.name ++ 47 ∷ (variant_name_of a.x.vars ++ 47 ∷ a.below.rest))
        (b.m.name ++ 47 ∷ (variant_name_of b.x.vars ++ 47 ∷ b.below.rest))
        (sym (spread a.m a.x a.below.rest) ∙ sym a.below.is ∙ same ∙ b.below.is ∙ spread b.m b.x b.below.rest) in
        let names = before_slash a.m.name b.m.name (variant_name_of a.x.vars ++ 47 ∷ a.below.rest)
        (variant_name_of b.x.vars ++ 47 ∷ b.below.rest) (name_free a.x.module.0 a.m a.owner)
        (name_free b.x.module.0 b.m b.owner) whole in
        let variants = before_slash (variant_name_of a.x.vars) (variant_name_of b.x.vars) a.below.rest b.below.rest
        (variant_free i a.x a.node) (variant_free j b.x b.node) names.1 in
        let index = one_index a.x.module.0 b.x.module.0 a.m b.m a.owner b.owner names.0 in
        variants_apart i j a.x b.x a.node b.node lt (λ k. record { 0 = index k }) variants.0

    no_all : (n : ℕ) (o : List ℕ) → IsOf n o → Differ o all_path
    no_all n o a same =
        let e : codes "out/m/" ++ (a.m.name ++ 47 ∷ (variant_name_of a.x.vars ++ 47 ∷ a.below.rest)) ≡ codes "out/all" =
        sym (spread a.m a.x a.below.rest)
        ∙ sym a.below.is
        ∙ same in
        unlike 109 97 (omega arith) (ap (λ l. get_or l 4 0) e)

    module _ (made : List Actions) (are : AreMade ms nodes made) where
      outputs : (n : ℕ) (d : Actions) → n < length made → OutputsOf n (get_or made n d)
      outputs n d lt = outputs_at_node n (made_below nodes made n d) (get_or made n d) (are.each n d lt)

      across : (i j : ℕ) (d : Actions) → i < j → j < length made
          → Across node_outs Differ (get_or made i d) (get_or made j d)
      across i j d lt within =
          all_map (IsOf i) (λ o. AllByRecursion (Differ o) (node_outs (get_or made j d)))
          (λ o a. all_map (IsOf j) (Differ o) (λ p b. nodes_apart i j o p lt a b) (node_outs (get_or made j d))
          (outputs j d within).each)
          (node_outs (get_or made i d)) (outputs i d (omega arith)).each

      nodes_outs : Apart Differ (flat_map node_outs made)
      nodes_outs =
          apart_flat node_outs Differ made (recursion_from_All (λ a. Apart Differ (node_outs a)) made
          (λ n d lt. (outputs n d lt).differ)) (apart_pairs (Across node_outs Differ) made across)

      not_all : AllByRecursion (λ o. AllByRecursion (Differ o) (all_path ∷ [])) (flat_map node_outs made)
      not_all = all_flat node_outs (λ o. AllByRecursion (Differ o) (all_path ∷ [])) made
          (recursion_from_All (λ a. AllByRecursion (λ o. AllByRecursion (Differ o) (all_path ∷ [])) (node_outs a)) made
          (λ n d lt. all_map (IsOf n) (λ o. AllByRecursion (Differ o) (all_path ∷ [])) (λ o a. (no_all n o a, tt))
          (node_outs (get_or made n d)) (outputs n d lt).each))

      joined : (xs : List Actions) → outs (flat_map (λ (node : Actions). node.statements) xs) ≡ flat_map node_outs xs
      joined [] = refl
      joined (x ∷ xs) =
          flat_map-append (λ (s : Statement). s.outs) x.statements (flat_map (λ (node : Actions). node.statements) xs)
          ∙ ap (λ l. node_outs x ++ l) (joined xs)

      pub outs_differ : AllDiffer (outs_of (file_of_actions made))
      outs_differ = pairs_apart Differ (outs_of (file_of_actions made))
          (subst (λ l. Apart Differ l)
          (sym (flat_map-append (λ (s : Statement). s.outs) (flat_map (λ (node : Actions). node.statements) made)
          (all_step made ∷ []) ∙ ap (λ l. l ++ all_path ∷ []) (joined made)))
          (apart_append Differ (flat_map node_outs made) (all_path ∷ []) nodes_outs (tt, tt) not_all))
