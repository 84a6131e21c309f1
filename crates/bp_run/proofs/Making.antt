-- What files give, step by step: a step, and then the next.
use Rattle.std.proofs.Common.{◌≡◌, ℕ, List, Vec, sym, refl, subst, Option, Some, None, Result, Ok, Err}
use Rattle.std.specs.Prelude.{IfSome}
use Rattle.std.specs.Result.{IsErrAnd}
use Rattle.std.specs.declared.alloc.Global.{Global}
use Rattle.bp_faults.specs.declared.fault.Fault.{Fault}
use Rattle.bp_faults.specs.declared.refusal.Refusal.{Refusal}
use Rattle.bp_faults.specs.declared.refusal.Refusal.TheVariants.{Bad, OutOfMemory as NoMemory}
use Rattle.bp_faults.specs.Answers.{Tells}
use Rattle.bp_faults.specs.Phases.{GoesOn, Then}
use Rattle.bp_ports.specs.Files.{Files}
use Rattle.bp_props.specs.declared.module.Module.{Module}
use Rattle.bp_load.specs.Loaded.{LoadMeans}
use Rattle.bp_load.specs.Trees.{Source}
use Rattle.bp_run.specs.declared.put.Put.{Put}
use Rattle.bp_run.specs.declared.stop.Stop.{Stop}
use Rattle.bp_run.specs.Steps.{GivesOrStops, MakesPuts, MakesOrStops, stop_of}
use Rattle.bp_run.specs.Tree.{ListedFilesLoad, CannotReadOf, sources_of}
use Rattle.bp_run.proofs.Meeting.{Never, meets, stops}

-- a layer that refuses, and the whole with it
tells_here : {T U V W : Type 0} (view : T → V) (whole_view : U → W) (Part : Result V Fault → Type 0)
    (Whole : Result W Fault → Type 0) → ((fault : Fault) → Part (Err fault) → Whole (Err fault))
    → (e : Refusal) → Tells view Part (Err e) → GivesOrStops whole_view Whole Never (Err (stop_of e))
tells_here view whole_view Part Whole on (Bad fault) h = on fault h
tells_here view whole_view Part Whole on NoMemory h = tt

pub told : {T U V W : Type 0} (view : T → V) (whole_view : U → W) (Part : Result V Fault → Type 0)
    (Whole : Result W Fault → Type 0) → ((fault : Fault) → Part (Err fault) → Whole (Err fault))
    → (e : Refusal) (r : Result U Stop) → IsErrAnd r (λ x. x ≡ stop_of e) → Tells view Part (Err e)
    → GivesOrStops whole_view Whole Never r
told view whole_view Part Whole on e (Ok x) same h = absurd same
told view whole_view Part Whole on e (Err x) same h =
    subst (λ s. GivesOrStops whole_view Whole Never (Err s)) (sym same) (tells_here view whole_view Part Whole on e h)

-- a layer that refuses, where texts with their places are made
pub refused_puts : {T V : Type 0} (view : T → V) (Part : Result V Fault → Type 0)
    (Whole : Result (List ℕ) Fault → Type 0) (Goes : List ℕ → List Put → Type 0)
    → ((fault : Fault) → Part (Err fault) → Whole (Err fault)) → (e : Refusal)
    (r : Result (Vec Put Global) Refusal) → IsErrAnd r (λ x. x ≡ e) → Tells view Part (Err e) → MakesPuts Whole Goes r
refused_puts view Part Whole Goes on e (Ok puts) same h = absurd same
refused_puts view Part Whole Goes on e (Err x) same h =
    subst (λ x. MakesPuts Whole Goes (Err x)) (sym same) (by e h)
  where
    by : (e : Refusal) → Tells view Part (Err e) → MakesPuts Whole Goes (Err e)
    by (Bad fault) h = on fault h
    by NoMemory h = tt

-- Two steps, of which the second makes texts with their places.
module _ {T A : Type 0} (view : T → A) (First : Result A Fault → Type 0)
    (Next : A → Result (List ℕ) Fault → Type 0) (Goes : List ℕ → List Put → Type 0) where
  -- the first stops, and the whole with it
  pub puts_stopped : (e : Stop) (r : Result (Vec Put Global) Stop) → IsErrAnd r (λ x. x ≡ e)
      → GivesOrStops view First Never (Err e) → MakesOrStops (Then First Next) Goes r
  puts_stopped e (Ok puts) same h = absurd same
  puts_stopped e (Err x) same h = subst (λ x. MakesOrStops (Then First Next) Goes (Err x)) (sym same) (by e h)
    where
      by : (e : Stop) → GivesOrStops view First Never (Err e) → MakesOrStops (Then First Next) Goes (Err e)
      by (Stop.Fault fault) h = (Err fault, h, refl)
      by (Stop.Read path) h = absurd h
      by Stop.OutOfMemory h = tt

  -- the second refuses
  pub puts_refused : (value : A) → First (Ok value) → (e : Refusal) (r : Result (Vec Put Global) Stop)
      → IsErrAnd r (λ x. x ≡ stop_of e) → MakesPuts (Next value) Goes (Err e) → MakesOrStops (Then First Next) Goes r
  puts_refused value first e (Ok puts) same h = absurd same
  puts_refused value first e (Err x) same h =
      subst (λ x. MakesOrStops (Then First Next) Goes (Err x)) (sym same) (by e h)
    where
      by : (e : Refusal) → MakesPuts (Next value) Goes (Err e) → MakesOrStops (Then First Next) Goes (Err (stop_of e))
      by (Bad fault) h = (Ok value, first, h)
      by NoMemory h = tt

  -- the second makes them
  pub puts_made : (value : A) → First (Ok value) → (puts : Vec Put Global) → MakesPuts (Next value) Goes (Ok puts)
      → MakesOrStops (Then First Next) Goes (Ok puts)
  puts_made value first puts (text, gives, goes) = (text, (Ok value, first, gives), goes)

-- Two steps, one after the other.
module _ {T U A B : Type 0} (view : T → A) (whole_view : U → B) (First : Result A Fault → Type 0)
    (Next : A → Result B Fault → Type 0) where
  -- the first stops, and the whole with it
  pub first_stops : (e : Stop) (r : Result U Stop) → IsErrAnd r (λ x. x ≡ e) → GivesOrStops view First Never (Err e)
      → GivesOrStops whole_view (Then First Next) Never r
  first_stops e r same h =
      stops view whole_view First (Then First Next) Never Never (λ fault means. (Err fault, means, refl))
      (λ path never. absurd never) e r same h

  -- the second answers for the whole
  pub second_gives : (value : A) → First (Ok value) → (r : Result U Stop)
      → GivesOrStops whole_view (Next value) Never r → GivesOrStops whole_view (Then First Next) Never r
  second_gives value first r h =
      meets whole_view (Next value) (Then First Next) Never Never (λ outcome next. (Ok value, first, next))
      (λ path never. absurd never) r h

module _ (paths : List (List ℕ)) where
  -- what the files of the list load as, and what is made of them
  abbrev Loads : Files → Result (Vec Module Global) Stop → Type 0
  Loads files r =
      GivesOrStops {T = Vec Module Global} {V = List Module} (λ typed. typed.items) (ListedFilesLoad files paths)
      (CannotReadOf files paths) r

  -- the files were read, and loaded
  loaded_here : (files : Files) (sources : List Source) (r : Result (Vec Module Global) Stop)
      → sources_of files paths ≡ Ok sources
      → GivesOrStops {T = Vec Module Global} {V = List Module} (λ typed. typed.items) (LoadMeans sources) Never r
      → Loads files r
  loaded_here files sources r read h =
      meets {T = Vec Module Global} (λ typed. typed.items) (LoadMeans sources) (ListedFilesLoad files paths) Never
      (CannotReadOf files paths)
      (λ outcome loads. subst (λ s. GoesOn s LoadMeans outcome) (sym read) loads) (λ path never. absurd never) r h

  pub tree_loaded : (old : Option Files) (sources : List Source) (r : Result (Vec Module Global) Stop)
      → IfSome old (λ files. sources_of files paths ≡ Ok sources)
      → GivesOrStops {T = Vec Module Global} {V = List Module} (λ typed. typed.items) (LoadMeans sources) Never r
      → IfSome old (λ files. Loads files r)
  tree_loaded None sources r read h = tt
  tree_loaded (Some files) sources r read h = loaded_here files sources r read h
