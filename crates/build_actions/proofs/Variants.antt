-- Variations that stand on their axes are told by the name of their variant.
use Rattle.std.proofs.Common.{◌≡◌, ◌<◌, ◌==◌, ◌++◌, ◌&&◌, ◌||◌, ◌%◌, ◌/◌, ◌^◌, ℕ, zero, suc, Bool, true, false, cond}
use Rattle.std.proofs.Common.{List, [], ◌∷◌, get_or, refl, sym, ap, ◌∙◌, arith, append-nil, true≢false}
use Rattle.std.specs.Prelude.{codes, IsTrue}
use Rattle.std.specs.List.{filter, flat_map}
use Rattle.std.specs.Fmt.{decimal, digits, digits_onto, digit_glyph}
use Rattle.std.proofs.lemmas.Fmt.{decimal_injective}
use Rattle.std.proofs.lemmas.Bool.Decides.{nat_tests}
use Rattle.std.proofs.lemmas.List.{append_cancel_left}
use Rattle.bp_faults.specs.declared.target.Target.{Target}
use Rattle.bp_faults.specs.declared.target.Target.TheVariants.{AndroidArm64, AndroidArm, AndroidX86_64, AndroidX86}
use Rattle.bp_faults.specs.declared.target.Target.TheVariants.{LinuxGlibcX86_64, LinuxGlibcX86}
use Rattle.graph_nodes.specs.declared.variation.Variation.{Variation}
use Rattle.graph_nodes.specs.declared.variation.Variation.TheVariants.{Empty, Target as For, Common, Vendor, Recovery}
use Rattle.graph_nodes.specs.declared.variation.Variation.TheVariants.{Static, Shared, PerSource, Asan}
use Rattle.graph_nodes.specs.declared.variations.Axis.TheVariants as A
use Rattle.graph_nodes.specs.Names.{spelling, is_set, variant_name_of}
use Rattle.build_actions.specs.Variants.{stands_on, AreOnAxes}
use Rattle.build_actions.proofs.Separated.{has_it, Behind, before_it}

-- a variation's part of a name, behind `_`
abbrev part : Variation → List ℕ
part Empty = []
part v = codes "_" ++ spelling v

abbrev parts : List Variation → List ℕ
parts vs = flat_map part vs

-- a name behind `_`, unless it is empty
abbrev prefixed : List ℕ → List ℕ
prefixed [] = []
prefixed (b ∷ name) = 95 ∷ b ∷ name

abbrev tail_of : List Variation → List ℕ
tail_of vs = flat_map (λ v. codes "_" ++ spelling v) (filter is_set vs)

tail_is : (vs : List Variation) → tail_of vs ≡ parts vs
tail_is [] = refl
tail_is (v ∷ vs) = by v (tail_is vs)
  where
    by : (v : Variation) → tail_of vs ≡ parts vs → tail_of (v ∷ vs) ≡ parts (v ∷ vs)
    by Empty on = on
    by (For target) on = ap (λ l. (codes "_" ++ spelling (For target)) ++ l) on
    by Common on = ap (λ l. (codes "_" ++ spelling Common) ++ l) on
    by Vendor on = ap (λ l. (codes "_" ++ spelling Vendor) ++ l) on
    by Recovery on = ap (λ l. (codes "_" ++ spelling Recovery) ++ l) on
    by Static on = ap (λ l. (codes "_" ++ spelling Static) ++ l) on
    by Shared on = ap (λ l. (codes "_" ++ spelling Shared) ++ l) on
    by (PerSource k) on = ap (λ l. (codes "_" ++ spelling (PerSource k)) ++ l) on
    by Asan on = ap (λ l. (codes "_" ++ spelling Asan) ++ l) on

-- The name behind `_` is the parts one after another.
name_is : (vs : List Variation) → prefixed (variant_name_of vs) ≡ parts vs
name_is [] = refl
name_is (v ∷ vs) = by v (name_is vs)
  where
    by_target : (target : Target) → prefixed (variant_name_of (For target ∷ vs)) ≡ parts (For target ∷ vs)
    by_target AndroidArm64 = ap (λ l. (codes "_" ++ spelling (For AndroidArm64)) ++ l) (tail_is vs)
    by_target AndroidArm = ap (λ l. (codes "_" ++ spelling (For AndroidArm)) ++ l) (tail_is vs)
    by_target AndroidX86_64 = ap (λ l. (codes "_" ++ spelling (For AndroidX86_64)) ++ l) (tail_is vs)
    by_target AndroidX86 = ap (λ l. (codes "_" ++ spelling (For AndroidX86)) ++ l) (tail_is vs)
    by_target LinuxGlibcX86_64 = ap (λ l. (codes "_" ++ spelling (For LinuxGlibcX86_64)) ++ l) (tail_is vs)
    by_target LinuxGlibcX86 = ap (λ l. (codes "_" ++ spelling (For LinuxGlibcX86)) ++ l) (tail_is vs)

    by : (v : Variation) → prefixed (variant_name_of vs) ≡ parts vs
        → prefixed (variant_name_of (v ∷ vs)) ≡ parts (v ∷ vs)
    by Empty on = on
    by (For target) on = by_target target
    by Common on = ap (λ l. (codes "_" ++ spelling Common) ++ l) (tail_is vs)
    by Vendor on = ap (λ l. (codes "_" ++ spelling Vendor) ++ l) (tail_is vs)
    by Recovery on = ap (λ l. (codes "_" ++ spelling Recovery) ++ l) (tail_is vs)
    by Static on = ap (λ l. (codes "_" ++ spelling Static) ++ l) (tail_is vs)
    by Shared on = ap (λ l. (codes "_" ++ spelling Shared) ++ l) (tail_is vs)
    by (PerSource k) on = ap (λ l. (codes "_" ++ spelling (PerSource k)) ++ l) (tail_is vs)
    by Asan on = ap (λ l. (codes "_" ++ spelling Asan) ++ l) (tail_is vs)

-- what may stand behind the part of a target
record IsBehindTarget (r : List ℕ) : Type 0 where
  no6 : (get_or r 0 0 == 54) ≡ false
  no6' : (get_or r 1 0 == 54) ≡ false
  noc : (get_or r 1 0 == 99) ≡ false
  nol : (get_or r 1 0 == 108) ≡ false
  noan : (get_or r 1 0 == 97 && get_or r 2 0 == 110) ≡ false

-- what may stand behind the part of an image
record IsBehindImage (r : List ℕ) : Type 0 where
  nov : (get_or r 1 0 == 118) ≡ false
  nor : (get_or r 1 0 == 114) ≡ false
  target : IsBehindTarget r

-- what may stand behind the part of a link
record IsBehindLink (r : List ℕ) : Type 0 where
  nos : (get_or r 1 0 == 115) ≡ false
  image : IsBehindImage r

impossible : {A : Type 0} → false ≡ true → A
impossible h = absurd (true≢false (sym h))

-- what holds of each variation of an axis
on_sanitize : (P : Variation → Type 0) → P Empty → P Asan → (e : Variation) → IsTrue (stands_on A.Sanitize e) → P e
on_sanitize P x y Empty h = x
on_sanitize P x y Asan h = y
on_sanitize P x y (For target) h = impossible h
on_sanitize P x y Common h = impossible h
on_sanitize P x y Vendor h = impossible h
on_sanitize P x y Recovery h = impossible h
on_sanitize P x y Static h = impossible h
on_sanitize P x y Shared h = impossible h
on_sanitize P x y (PerSource n) h = impossible h

on_source : (P : Variation → Type 0) → P Empty
    → ((n : ℕ) → IsTrue (stands_on A.PerSource (PerSource n)) → P (PerSource n))
    → (d : Variation) → IsTrue (stands_on A.PerSource d) → P d
on_source P x y Empty h = x
on_source P x y (PerSource n) h = y n h
on_source P x y (For target) h = impossible h
on_source P x y Common h = impossible h
on_source P x y Vendor h = impossible h
on_source P x y Recovery h = impossible h
on_source P x y Static h = impossible h
on_source P x y Shared h = impossible h
on_source P x y Asan h = impossible h

on_link : (P : Variation → Type 0) → P Empty → P Static → P Shared → (c : Variation) → IsTrue (stands_on A.Link c) → P c
on_link P x y z Empty h = x
on_link P x y z Static h = y
on_link P x y z Shared h = z
on_link P x y z (For target) h = impossible h
on_link P x y z Common h = impossible h
on_link P x y z Vendor h = impossible h
on_link P x y z Recovery h = impossible h
on_link P x y z (PerSource n) h = impossible h
on_link P x y z Asan h = impossible h

on_image : (P : Variation → Type 0) → P Empty → P Vendor → P Recovery → (b : Variation) → IsTrue (stands_on A.Image b)
    → P b
on_image P x y z Empty h = x
on_image P x y z Vendor h = y
on_image P x y z Recovery h = z
on_image P x y z (For target) h = impossible h
on_image P x y z Common h = impossible h
on_image P x y z Static h = impossible h
on_image P x y z Shared h = impossible h
on_image P x y z (PerSource n) h = impossible h
on_image P x y z Asan h = impossible h

-- what stands behind parts, where its first bytes are known
target_known : (r : List ℕ) → (get_or r 0 0 == 54) ≡ false → (get_or r 1 0 == 54) ≡ false → (get_or r 1 0 == 99) ≡ false
    → (get_or r 1 0 == 108) ≡ false
    → (get_or r 1 0 == 97 && get_or r 2 0 == 110) ≡ false → IsBehindTarget r
target_known r a b c d e = record { no6 = a; no6' = b; noc = c; nol = d; noan = e }

sanitize_rest : (e : Variation) → IsTrue (stands_on A.Sanitize e) → IsBehindLink (part e)
sanitize_rest e h =
    on_sanitize (λ e. IsBehindLink (part e))
    (record {
      nos = refl;
      image = record { nov = refl; nor = refl; target = target_known (part Empty) refl refl refl refl refl };
    })
    (record {
      nos = refl;
      image = record { nov = refl; nor = refl; target = target_known (part Asan) refl refl refl refl refl };
    })
    e h

source_rest : (d : Variation) (r : List ℕ) → IsTrue (stands_on A.PerSource d) → IsBehindLink r
    → IsBehindLink (part d ++ r)
source_rest d r h k =
    on_source (λ d. IsBehindLink (part d ++ r)) k
    (λ n small. record {
      nos = refl;
      image = record {
        nov = refl;
        nor = refl;
        target = target_known (part (PerSource n) ++ r) refl refl refl refl refl;
      };
    })
    d h

link_rest : (c : Variation) (r : List ℕ) → IsTrue (stands_on A.Link c) → IsBehindImage r → IsBehindImage (part c ++ r)
link_rest c r h k =
    on_link (λ c. IsBehindImage (part c ++ r)) k
    (record { nov = refl; nor = refl; target = target_known (part Static ++ r) refl refl refl refl refl })
    (record { nov = refl; nor = refl; target = target_known (part Shared ++ r) refl refl refl refl refl })
    c h

image_rest : (b : Variation) (r : List ℕ) → IsTrue (stands_on A.Image b) → IsBehindTarget r
    → IsBehindTarget (part b ++ r)
image_rest b r h k =
    on_image (λ b. IsBehindTarget (part b ++ r)) k
    (target_known (part Vendor ++ r) refl refl refl refl refl)
    (target_known (part Recovery ++ r) refl refl refl refl refl)
    b h

-- the target of a text that begins with its part
abbrev arm_in : Bool → Variation
arm_in b = cond b (For AndroidArm64) (For AndroidArm)

abbrev x86_in : Bool → Variation
x86_in b = cond b (For AndroidX86_64) (For AndroidX86)

abbrev linux_in : Bool → Variation
linux_in b = cond b (For LinuxGlibcX86_64) (For LinuxGlibcX86)

abbrev android_in : List ℕ → Variation
android_in t = cond (get_or t 9 0 == 97) (arm_in (get_or t 12 0 == 54)) (x86_in (get_or t 13 0 == 54))

abbrev target_in : List ℕ → Variation
target_in t =
    cond (get_or t 1 0 == 99) Common
    (cond (get_or t 1 0 == 108) (linux_in (get_or t 17 0 == 54))
    (cond (get_or t 1 0 == 97 && get_or t 2 0 == 110) (android_in t) Empty))

three : (a b c : Bool) (x y z : Variation) → a ≡ false → b ≡ false → c ≡ false
    → cond a x (cond b y (cond c z Empty)) ≡ Empty
three a b c x y z ha hb hc = (λ i. cond (ha i) x (cond (hb i) y (cond (hc i) z Empty)))

target_is : (a : Variation) (r : List ℕ) → IsTrue (stands_on A.Target a) → IsBehindTarget r
    → target_in (part a ++ r) ≡ a
target_is Empty r h k =
    three (get_or r 1 0 == 99) (get_or r 1 0 == 108) (get_or r 1 0 == 97 && get_or r 2 0 == 110) Common
    (linux_in (get_or r 17 0 == 54)) (android_in r) k.noc k.nol k.noan
target_is Common r h k = refl
target_is (For AndroidArm64) r h k = refl
target_is (For AndroidArm) r h k = ap arm_in k.no6
target_is (For AndroidX86_64) r h k = refl
target_is (For AndroidX86) r h k = ap x86_in k.no6'
target_is (For LinuxGlibcX86_64) r h k = refl
target_is (For LinuxGlibcX86) r h k = ap linux_in k.no6'
target_is Vendor r h k = impossible h
target_is Recovery r h k = impossible h
target_is Static r h k = impossible h
target_is Shared r h k = impossible h
target_is (PerSource n) r h k = impossible h
target_is Asan r h k = impossible h

abbrev image_in : List ℕ → Variation
image_in t = cond (get_or t 1 0 == 118) Vendor (cond (get_or t 1 0 == 114) Recovery Empty)

image_is : (b : Variation) (r : List ℕ) → IsTrue (stands_on A.Image b) → IsBehindImage r → image_in (part b ++ r) ≡ b
image_is b r h k =
    on_image (λ b. image_in (part b ++ r) ≡ b)
    (λ i. cond (k.nov i) Vendor (cond (k.nor i) Recovery Empty)) refl refl b h

abbrev link_in : List ℕ → Variation
link_in t = cond (get_or t 1 0 == 115) (cond (get_or t 2 0 == 116) Static Shared) Empty

link_is : (c : Variation) (r : List ℕ) → IsTrue (stands_on A.Link c) → IsBehindLink r → link_in (part c ++ r) ≡ c
link_is c r h k =
    on_link (λ c. link_in (part c ++ r) ≡ c)
    (ap (λ b. cond b (cond (get_or r 2 0 == 116) Static Shared) Empty) k.nos) refl refl c h

-- a part and what stands behind it, where a text tells the part
split : (a a' : Variation) (r s : List ℕ) (read : List ℕ → Variation) → read (part a ++ r) ≡ a
    → read (part a' ++ s) ≡ a' → part a ++ r ≡ part a' ++ s → (a ≡ a') × (r ≡ s)
split a a' r s read is is' e =
    let same = sym is ∙ ap read e ∙ is' in
    (same, append_cancel_left (part a) r s (e ∙ ap (λ v. part v ++ s) (sym same)))

-- no digit is `_`
digit_other : (n : ℕ) → (digit_glyph false (n % 10) == 95) ≡ false
digit_other n = let less : n % 10 < 10 = omega arith in grind (arith, nat_tests)

either : (b : Bool) (xs ys : List ℕ) → has_it 95 xs ≡ false → has_it 95 ys ≡ false → has_it 95 (cond b xs ys) ≡ false
either true xs ys h k = h
either false xs ys h k = k

digits_other : (k n : ℕ) (acc : List ℕ) → has_it 95 acc ≡ false → has_it 95 (digits_onto k 10 false n acc) ≡ false
digits_other zero n acc h = h
digits_other (suc k) n acc h =
    let more = ap (λ b. b || has_it 95 acc) (digit_other n) ∙ h in
    either (n / 10 == 0) (digit_glyph false (n % 10) ∷ acc)
    (digits_onto k 10 false (n / 10) (digit_glyph false (n % 10) ∷ acc)) more
    (digits_other k (n / 10) (digit_glyph false (n % 10) ∷ acc) more)

decimal_other : (n : ℕ) → has_it 95 (decimal n) ≡ false
unfolding digits
decimal_other n = digits_other 64 n [] refl

sanitize_behind : (e : Variation) → IsTrue (stands_on A.Sanitize e) → Behind 95 (part e)
sanitize_behind e h = on_sanitize (λ e. Behind 95 (part e)) tt refl e h

small : (n : ℕ) → IsTrue (stands_on A.PerSource (PerSource n)) → n < 2 ^ 64
small n h = let lt : n < 4294967296 = grind (arith, nat_tests) in omega arith

unlike : (a b : ℕ) → b < a → a ≡ b → ⊥
unlike a b less same = omega arith

no_source : (e : Variation) (n : ℕ) (r : List ℕ) → IsTrue (stands_on A.Sanitize e) → part e ≡ part (PerSource n) ++ r
    → ⊥
no_source e n r h =
    on_sanitize (λ e. part e ≡ part (PerSource n) ++ r → ⊥)
    (λ same. unlike 116 0 (omega arith) (sym (ap (λ l. get_or l 1 0) same)))
    (λ same. unlike 116 97 (omega arith) (sym (ap (λ l. get_or l 1 0) same))) e h

-- variants of sources, by what is behind `_t`
one_source : (n m : ℕ) (e e' : Variation) → IsTrue (stands_on A.PerSource (PerSource n))
    → IsTrue (stands_on A.PerSource (PerSource m)) → IsTrue (stands_on A.Sanitize e) → IsTrue (stands_on A.Sanitize e')
    → part (PerSource n) ++ part e ≡ part (PerSource m) ++ part e' → PerSource n ≡ PerSource m
one_source n m e e' hn hm he he' same =
    ap PerSource (decimal_injective n m (small n hn) (small m hm)
    (before_it 95 (decimal n) (decimal m) (part e) (part e') (decimal_other n) (decimal_other m) (sanitize_behind e he)
    (sanitize_behind e' he')
    (append_cancel_left (codes "_t") (decimal n ++ part e) (decimal m ++ part e') same)))

sources_same : (d d' e e' : Variation) → IsTrue (stands_on A.PerSource d) → IsTrue (stands_on A.PerSource d')
    → IsTrue (stands_on A.Sanitize e) → IsTrue (stands_on A.Sanitize e') → part d ++ part e ≡ part d' ++ part e'
    → d ≡ d'
sources_same d d' e e' hd hd' he he' =
    on_source (λ d. part d ++ part e ≡ part d' ++ part e' → d ≡ d')
    (on_source (λ d'. part e ≡ part d' ++ part e' → Empty ≡ d') (λ same. refl)
    (λ n h same. absurd (no_source e n (part e') he same)) d' hd')
    (λ n h. on_source (λ d'. part (PerSource n) ++ part e ≡ part d' ++ part e' → PerSource n ≡ d')
    (λ same. absurd (no_source e' n (part e) he' (sym same))) (λ m h' same. one_source n m e e' h h' he he' same) d'
    hd')
    d hd

sanitizes_same : (e e' : Variation) → IsTrue (stands_on A.Sanitize e) → IsTrue (stands_on A.Sanitize e')
    → part e ≡ part e' → e ≡ e'
sanitizes_same e e' h h' =
    on_sanitize (λ e. part e ≡ part e' → e ≡ e')
    (on_sanitize (λ e'. [] ≡ part e' → Empty ≡ e') (λ same. refl) (λ same. cc) e' h')
    (on_sanitize (λ e'. part Asan ≡ part e' → Asan ≡ e') (λ same. cc) (λ same. refl) e' h')
    e h

five : (a b c d e : Variation) → parts (a ∷ b ∷ c ∷ d ∷ e ∷ []) ≡ part a ++ (part b ++ (part c ++ (part d ++ part e)))
five a b c d e = ap (λ l. part a ++ (part b ++ (part c ++ (part d ++ l)))) (append-nil (part e))

module _ (vs : List Variation) (v : AreOnAxes vs) where
  behind_link : IsBehindLink (part v.source ++ part v.sanitize)
  behind_link = source_rest v.source (part v.sanitize) v.on_source (sanitize_rest v.sanitize v.on_sanitize)

  behind_image : IsBehindImage (part v.link ++ (part v.source ++ part v.sanitize))
  behind_image = link_rest v.link (part v.source ++ part v.sanitize) v.on_link behind_link.image

  behind_target : IsBehindTarget (part v.image ++ (part v.link ++ (part v.source ++ part v.sanitize)))
  behind_target = image_rest v.image (part v.link ++ (part v.source ++ part v.sanitize)) v.on_image behind_image.target

  target_told : target_in (part v.target ++ (part v.image ++ (part v.link ++ (part v.source ++ part v.sanitize))))
      ≡ v.target
  target_told =
      target_is v.target (part v.image ++ (part v.link ++ (part v.source ++ part v.sanitize))) v.on_target behind_target

  image_told : image_in (part v.image ++ (part v.link ++ (part v.source ++ part v.sanitize))) ≡ v.image
  image_told = image_is v.image (part v.link ++ (part v.source ++ part v.sanitize)) v.on_image behind_image

  link_told : link_in (part v.link ++ (part v.source ++ part v.sanitize)) ≡ v.link
  link_told = link_is v.link (part v.source ++ part v.sanitize) v.on_link behind_link

  name_told : prefixed (variant_name_of vs)
      ≡ part v.target ++ (part v.image ++ (part v.link ++ (part v.source ++ part v.sanitize)))
  name_told = name_is vs ∙ ap parts v.are ∙ five v.target v.image v.link v.source v.sanitize

-- Variations on their axes that have one name are the same.
pub told_by_name : (vs ws : List Variation) → AreOnAxes vs → AreOnAxes ws → variant_name_of vs ≡ variant_name_of ws
    → vs ≡ ws
told_by_name vs ws v w same =
    let whole = sym (name_told vs v) ∙ ap prefixed same ∙ name_told ws w in
    let targets = split v.target w.target (part v.image ++ (part v.link ++ (part v.source ++ part v.sanitize)))
    (part w.image ++ (part w.link ++ (part w.source ++ part w.sanitize))) target_in (target_told vs v)
    (target_told ws w) whole in
    let images = split v.image w.image (part v.link ++ (part v.source ++ part v.sanitize))
    (part w.link ++ (part w.source ++ part w.sanitize)) image_in (image_told vs v) (image_told ws w) targets.1 in
    let links = split v.link w.link (part v.source ++ part v.sanitize) (part w.source ++ part w.sanitize) link_in
    (link_told vs v) (link_told ws w) images.1 in
    let sources =
    sources_same v.source w.source v.sanitize w.sanitize v.on_source w.on_source v.on_sanitize w.on_sanitize links.1 in
    let rest = append_cancel_left (part v.source) (part v.sanitize) (part w.sanitize)
    (links.1 ∙ ap (λ d. part d ++ part w.sanitize) (sym sources)) in
    let sanitizes = sanitizes_same v.sanitize w.sanitize v.on_sanitize w.on_sanitize rest in
    v.are ∙ (λ i. targets.0 i ∷ images.0 i ∷ links.0 i ∷ sources i ∷ sanitizes i ∷ []) ∙ sym w.are
