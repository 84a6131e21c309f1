-- Nodes and their numbers: of what repeats, the same is kept.
use Rattle.std.proofs.Common.{◌≡◌, ◌<◌, ◌≤◌, ◌++◌, ◌||◌, ℕ, List, [], ◌∷◌, Bool, true, false, cond, length, map}
use Rattle.std.proofs.Common.{reverse, get_or, take, drop, ◌+◌, nat_eq, nat_le, Option, option_map, Vec, Global, Some}
use Rattle.std.proofs.Common.{None, refl, sym, ap, subst, ◌∙◌}
use Rattle.std.proofs.lemmas.List.{length-map}
use Rattle.std.proofs.lemmas.Bool.{eqb-true}
use Rattle.bp_faults.proofs.Lists.{same_bytes}
use Rattle.bp_faults.specs.declared.limits.TheConstants.{LONGEST_LINE}
use Rattle.std.specs.Borrow.{Bor}
use Rattle.std.specs.List.{list_any, flat_map}
use Rattle.std.proofs.lemmas.List.{map-append, reverse-append, length-reverse, take_more, take-append-drop}
use Rattle.std.proofs.lemmas.List.Sums.{fold-append}
use Rattle.indexmap.specs.IndexSet.{insert_key, insert_all}
use Rattle.bp_faults.specs.declared.ids.NodeId.{NodeId}
use Rattle.info_mutators.specs.Kept.{last_of_each, first_of_each, is_short, if_short}
use Rattle.info_mutators.specs.Inside.{values_behind}
use Rattle.info_mutators.specs.Info.{is_same_node, line_part, link_line_of, shared_part, needed_part, slibs_of}
use Rattle.info_mutators.specs.Info.{own_includes, include_part, includes_of, export_part, exports_of}
use Rattle.serial_pass.specs.Orders.{numbers}
use Rattle.std.specs.Str.{bytes_eq}
use Rattle.bp_props.specs.declared.props.Props.{Props}
use Rattle.info_mutators.specs.Dependencies.{Dependency}
use Rattle.info_mutators.proofs.Noted.{last_kept, first_kept, some_short, none_short, both_long, short_then}
use Rattle.info_mutators.proofs.Noted.{short_reversed, short_behind, front_stays}
use Rattle.info_mutators.proofs.Slots.{same_number}

pub map-reverse : {A B : Type 0} (f : A → B) (xs : List A) → map f (reverse xs) ≡ reverse (map f xs)
map-reverse f [] = refl
map-reverse f (x ∷ xs) =
    ap (map f) (reverse-append (x ∷ []) xs)
    ∙ map-append f (reverse xs) (x ∷ [])
    ∙ ap (λ ys. ys ++ f x ∷ []) (map-reverse f xs)
    ∙ sym (reverse-append (f x ∷ []) (map f xs))

any_number : (x : NodeId) (xs : List NodeId) → list_any (nat_eq x.0) (numbers xs) ≡ list_any (is_same_node x) xs
any_number x [] = refl
any_number x (y ∷ ys) = ap (λ b. nat_eq x.0 y.0 || b) (any_number x ys)

kept_numbers : (xs : List NodeId) → last_of_each nat_eq (numbers xs) ≡ numbers (last_of_each is_same_node xs)
kept_numbers [] = refl
kept_numbers (x ∷ xs) =
    ap (λ b. cond b (last_of_each nat_eq (numbers xs)) (x.0 ∷ last_of_each nat_eq (numbers xs))) (any_number x xs)
    ∙ by (list_any (is_same_node x) xs) (kept_numbers xs)
  where
    by : (b : Bool) → last_of_each nat_eq (numbers xs) ≡ numbers (last_of_each is_same_node xs)
        → cond b (last_of_each nat_eq (numbers xs)) (x.0 ∷ last_of_each nat_eq (numbers xs))
        ≡ numbers (cond b (last_of_each is_same_node xs) (x ∷ last_of_each is_same_node xs))
    by true rest = rest
    by false rest = ap (λ ys. x.0 ∷ ys) rest

first_numbers : (xs : List NodeId) → first_of_each nat_eq (numbers xs) ≡ numbers (first_of_each is_same_node xs)
first_numbers xs =
    ap (λ ys. reverse (last_of_each nat_eq ys)) (sym (map-reverse (λ (n : NodeId). n.0) xs))
    ∙ ap reverse (kept_numbers (reverse xs))
    ∙ sym (map-reverse (λ (n : NodeId). n.0) (last_of_each is_same_node (reverse xs)))

-- nodes by their numbers
abbrev node_of : ℕ → NodeId
node_of k = record { 0 = k }

from_numbers : (xs : List NodeId) → map node_of (numbers xs) ≡ xs
from_numbers [] = refl
from_numbers (x ∷ xs) = ap (λ ys. x ∷ ys) (from_numbers xs)

numbers_same : (xs ys : List NodeId) → numbers xs ≡ numbers ys → xs ≡ ys
numbers_same xs ys e = sym (from_numbers xs) ∙ ap (map node_of) e ∙ from_numbers ys

-- a list of nodes is as short as that of their numbers
short_numbers : (list : List NodeId) → if_short (numbers list) ≡ option_map numbers (if_short list)
short_numbers list =
    ap (λ k. cond (nat_le k LONGEST_LINE) (Some (numbers list)) None) (length-map list (λ (n : NodeId). n.0))
    ∙ by (is_short list)
  where
    by : (b : Bool) → cond b (Some (numbers list)) None ≡ option_map numbers (cond b (Some list) None)
    by true = refl
    by false = refl

reversed_short : (keys : List ℕ) → if_short (reverse keys) ≡ option_map reverse (if_short keys)
reversed_short keys =
    ap (λ k. cond (nat_le k LONGEST_LINE) (Some (reverse keys)) None) (length-reverse keys) ∙ by (is_short keys)
  where
    by : (b : Bool) → cond b (Some (reverse keys)) None ≡ option_map reverse (cond b (Some keys) None)
    by true = refl
    by false = refl

-- the nodes are those of a list up to the limit where their numbers are
short_nodes : (nodes : Option (List NodeId)) (list : List NodeId) → option_map numbers nodes ≡ if_short (numbers list)
    → nodes ≡ if_short list
short_nodes nodes list e = by nodes (if_short list) (e ∙ short_numbers list)
  where
    by : (o p : Option (List NodeId)) → option_map numbers o ≡ option_map numbers p → o ≡ p
    by None None is = refl
    by None (Some ys) is = cc
    by (Some xs) None is = cc
    by (Some xs) (Some ys) is = let same : numbers xs ≡ numbers ys = cc in ap Some (numbers_same xs ys same)

pub items_numbers : (lists : Option (Vec NodeId Global))
    → option_map numbers (option_map (λ (list : Vec NodeId Global). list.items) lists)
    ≡ option_map (λ (list : Vec NodeId Global). numbers list.items) lists
items_numbers None = refl
items_numbers (Some list) = refl

map_flat : {X A B : Type 0} (h : A → B) (f : X → List A) (xs : List X)
    → map h (flat_map f xs) ≡ flat_map (λ x. map h (f x)) xs
map_flat h f [] = refl
map_flat h f (x ∷ xs) = map-append h (f x) (flat_map f xs) ∙ ap (λ ys. map h (f x) ++ ys) (map_flat h f xs)

same_numbers : (x y : ℕ) → nat_eq x y ≡ true → x ≡ y
same_numbers x y e = eqb-true x y e

-- a set that is filled from the end of what is line_part, turned round, is the line up to the limit
line_numbers : (ds : List Dependency) (keys : List ℕ) → if_short keys ≡ if_short (insert_all nat_eq []
    (reverse (flat_map (λ (d : Dependency). numbers (line_part d.node d.props d.kind)) ds)))
    → if_short (reverse keys) ≡ if_short (numbers (link_line_of ds))
line_numbers ds keys e =
    let xs = flat_map (λ (d : Dependency). line_part d.node d.props d.kind) ds in
    let flat = map_flat (λ (n : NodeId). n.0) (λ (d : Dependency). line_part d.node d.props d.kind) ds in
    short_reversed keys
    (insert_all nat_eq [] (reverse (flat_map (λ (d : Dependency). numbers (line_part d.node d.props d.kind)) ds))) e
    ∙ ap if_short (ap (λ ys. reverse (insert_all nat_eq [] (reverse ys))) (sym flat)
    ∙ last_kept nat_eq same_numbers (numbers xs) ∙ kept_numbers xs)

-- the link line by what was noted from its end
module _ (ds : List Dependency) (keys : List ℕ) (e : if_short keys ≡ if_short (insert_all nat_eq []
    (reverse (flat_map (λ (d : Dependency). numbers (line_part d.node d.props d.kind)) ds)))) where
  pub no_line : None ≡ if_short keys → None ≡ if_short (link_line_of ds)
  no_line long =
      short_nodes None (link_line_of ds)
      (ap (option_map reverse) long ∙ sym (reversed_short keys) ∙ line_numbers ds keys e)

  pub line_turned : (nodes line : List NodeId) → Some (numbers nodes) ≡ if_short keys → line ≡ reverse nodes
      → Some line ≡ if_short (link_line_of ds)
  line_turned nodes line short turned =
      short_nodes (Some line) (link_line_of ds) (ap (λ xs. Some (numbers xs)) turned
      ∙ ap Some (map-reverse (λ (n : NodeId). n.0) nodes) ∙ ap (option_map reverse) short ∙ sym (reversed_short keys)
      ∙ line_numbers ds keys e)

-- a set that is filled in two steps, each up to the limit
slibs_numbers : (ds : List Dependency) (between keys : List ℕ) → if_short between
    ≡ if_short (insert_all nat_eq [] (flat_map (λ (d : Dependency). numbers (shared_part d.node d.kind)) ds))
    → if_short keys ≡ if_short (insert_all nat_eq between (flat_map (λ (d : Dependency). numbers (needed_part d)) ds))
    → if_short keys ≡ if_short (numbers (slibs_of ds))
slibs_numbers ds between keys e f =
    let own = flat_map (λ (d : Dependency). shared_part d.node d.kind) ds in
    let more = flat_map needed_part ds in
    f
    ∙ ap (λ ys. if_short (insert_all nat_eq between ys)) (sym (map_flat (λ (n : NodeId). n.0) needed_part ds))
    ∙ short_then nat_eq between (insert_all nat_eq [] (numbers own)) (numbers more) (e
    ∙ ap (λ ys. if_short (insert_all nat_eq [] ys))
    (sym (map_flat (λ (n : NodeId). n.0) (λ (d : Dependency). shared_part d.node d.kind) ds)))
    ∙ ap if_short (sym (fold-append (insert_key nat_eq) [] (numbers own) (numbers more))
    ∙ ap (insert_all nat_eq []) (sym (map-append (λ (n : NodeId). n.0) own more))
    ∙ first_kept nat_eq same_numbers (numbers (own ++ more)) ∙ first_numbers (own ++ more))

-- the shared libraries by what was noted in two steps
pub slibs_noted : (ds : List Dependency) (between keys : List ℕ) (nodes : Option (List NodeId))
    → if_short between
    ≡ if_short (insert_all nat_eq [] (flat_map (λ (d : Dependency). numbers (shared_part d.node d.kind)) ds))
    → if_short keys ≡ if_short (insert_all nat_eq between (flat_map (λ (d : Dependency). numbers (needed_part d)) ds))
    → option_map numbers nodes ≡ if_short keys → nodes ≡ if_short (slibs_of ds)
slibs_noted ds between keys nodes e f is = short_nodes nodes (slibs_of ds) (is ∙ slibs_numbers ds between keys e f)

-- a set of references to paths
module _ (keys : List (Bor (List ℕ))) (list : List (List ℕ)) (e : if_short (values_behind keys) ≡ if_short list) where
  pub long_paths : LONGEST_LINE < length keys → None ≡ if_short list
  long_paths long =
      sym (none_short list (both_long (values_behind keys) list e
      (subst (λ k. LONGEST_LINE < k) (sym (length-map keys (λ (r : Bor (List ℕ)). r.now))) long)))

  pub short_paths : (paths : List (List ℕ)) → length keys ≤ LONGEST_LINE → paths ≡ values_behind keys
      → Some paths ≡ if_short list
  short_paths paths few is =
      ap Some is
      ∙ sym (some_short (values_behind keys)
      (subst (λ k. k ≤ LONGEST_LINE) (sym (length-map keys (λ (r : Bor (List ℕ)). r.now))) few))
      ∙ e

-- a module's own directories are noted, and then those of its libraries
pub included : (own : Props) (ds : List Dependency) (start between keys : List (List ℕ)) → start ≡ []
    → if_short between ≡ if_short (insert_all bytes_eq start (own_includes own))
    → if_short keys ≡ if_short (insert_all bytes_eq between (flat_map include_part ds))
    → if_short keys ≡ if_short (includes_of own ds)
included own ds start between keys empty is e =
    short_behind bytes_eq [] between keys (own_includes own) (flat_map include_part ds)
    (is ∙ ap (λ ks. if_short (insert_all bytes_eq ks (own_includes own))) empty) e
    ∙ ap if_short (first_kept bytes_eq same_bytes (own_includes own ++ flat_map include_part ds))

-- a set that is filled with what a module exports
pub exported : (own : Props) (ds : List Dependency) (start between keys : List (List ℕ)) → start ≡ []
    → between ≡ insert_all bytes_eq start own.base.export_include_dirs.items
    → keys ≡ insert_all bytes_eq between (flat_map (export_part own) ds) → keys ≡ exports_of own ds
exported own ds start between keys empty is e =
    e
    ∙ ap (λ ks. insert_all bytes_eq ks (flat_map (export_part own) ds))
    (is ∙ ap (λ ks. insert_all bytes_eq ks own.base.export_include_dirs.items) empty)
    ∙ sym (fold-append (insert_key bytes_eq) [] own.base.export_include_dirs.items (flat_map (export_part own) ds))
    ∙ first_kept bytes_eq same_bytes (own.base.export_include_dirs.items ++ flat_map (export_part own) ds)

-- one node more
module _ (nodes : List NodeId) (i : ℕ) (d : NodeId) (within : i < length nodes) where
  numbers_more : numbers (take (i + 1) nodes) ≡ numbers (take i nodes) ++ (get_or nodes i d).0 ∷ []
  numbers_more =
      ap numbers (take_more nodes i d within) ∙ map-append (λ (n : NodeId). n.0) (take i nodes) (get_or nodes i d ∷ [])

  pub node_noted : (old keys after : List ℕ) → if_short keys ≡ if_short (insert_all nat_eq old (numbers (take i nodes)))
      → if_short after ≡ if_short (insert_key nat_eq keys (get_or nodes i d).0)
      → if_short after ≡ if_short (insert_all nat_eq old (numbers (take (i + 1) nodes)))
  node_noted old keys after e f =
      short_behind nat_eq old keys after (numbers (take i nodes)) ((get_or nodes i d).0 ∷ []) e f
      ∙ ap (λ zs. if_short (insert_all nat_eq old zs)) (sym numbers_more)

  -- the same from the last on
  pub node_left : (p : ℕ) → p ≡ i + 1 → (keys after : List ℕ)
      → if_short after ≡ if_short (insert_key nat_eq keys (get_or nodes i d).0)
      → if_short (insert_all nat_eq after (reverse (numbers (take i nodes))))
      ≡ if_short (insert_all nat_eq keys (reverse (numbers (take p nodes))))
  node_left p next keys after e =
      short_then nat_eq after (insert_key nat_eq keys (get_or nodes i d).0) (reverse (numbers (take i nodes))) e
      ∙ ap (λ zs. if_short (insert_all nat_eq keys zs)) (
      sym (reverse-append (numbers (take i nodes)) ((get_or nodes i d).0 ∷ []))
      ∙ ap reverse (sym numbers_more)
      ∙ ap (λ k. reverse (numbers (take k nodes))) (sym next))

-- the tail of a list that is the front of a set needn't be noted
pub tail_there : (nodes : List NodeId) (keys : List ℕ) (p r : ℕ) → reverse (numbers (drop p nodes)) ≡ take r keys
    → insert_all nat_eq keys (reverse (numbers (take p nodes))) ≡ insert_all nat_eq keys (reverse (numbers nodes))
tail_there nodes keys p r same =
    ap (λ ks. insert_all nat_eq ks (reverse (numbers (take p nodes)))) (sym (front_stays nat_eq same_number keys r))
    ∙ sym (fold-append (insert_key nat_eq) keys (take r keys) (reverse (numbers (take p nodes))))
    ∙ ap (λ ys. insert_all nat_eq keys (ys ++ reverse (numbers (take p nodes)))) (sym same)
    ∙ ap (insert_all nat_eq keys) (
    sym (reverse-append (numbers (take p nodes)) (numbers (drop p nodes)))
    ∙ ap reverse (sym (map-append (λ (n : NodeId). n.0) (take p nodes) (drop p nodes)))
    ∙ ap (λ ns. reverse (numbers ns)) (take-append-drop p nodes))
