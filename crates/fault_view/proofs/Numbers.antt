-- The number of which a text is the decimal.
use Rattle.std.proofs.Common.{◌≡◌, ◌<◌, ◌^◌, ℕ, Bool, true, false, List, Result, Some, None, sym, ap, ◌∙◌, arith}
use Rattle.std.specs.Bool.{then_some}
use Rattle.std.specs.Fmt.{decimal}
use Rattle.std.specs.Result.{result_ok}
use Rattle.std.specs.Str.{bytes_eq}
use Rattle.std.specs.Str.Parse.{ParsesUnsigned}
use Rattle.std.proofs.lemmas.Fmt.{parse-decimal}
use Rattle.std.proofs.lemmas.Slice.Eq.{bytes_eq-Decides}
use Rattle.fault_view.specs.Inside.{IsNumber}

-- the decimal of a number is read as that number
read_back : {E : Type 0} (text : List ℕ) (r : Result ℕ E) (n : ℕ) → ParsesUnsigned 32 10 text r → n < 2 ^ 32
    → text ≡ decimal n → result_ok r ≡ Some n
read_back {E} text r n p lt is = ap result_ok (parse-decimal {E = E} 32 n text r lt (omega arith) is p)

pub unread_is_none : {E : Type 0} (text : List ℕ) (r : Result ℕ E) → ParsesUnsigned 32 10 text r
    → result_ok r ≡ None → IsNumber text None
unread_is_none {E} text r p none n lt is =
    let same : None ≡ Some n = sym none ∙ read_back {E = E} text r n p lt is in absurd (cc)

-- what is read is the number where its decimal is the text
pub tested_is : {E : Type 0} (text digits : List ℕ) (r : Result ℕ E) (n : ℕ) (t : Bool) → ParsesUnsigned 32 10 text r
    → result_ok r ≡ Some n → n < 2 ^ 32 → digits ≡ decimal n → t ≡ bytes_eq digits text → IsNumber text (then_some t n)
tested_is {E} text digits r n true p is lt written same =
    (lt, sym ((bytes_eq-Decides digits text).0 (sym same)) ∙ written)
tested_is {E} text digits r n false p is lt written same = λ m small e.
    let read : Some n ≡ Some m = sym is ∙ read_back {E = E} text r m p small e in
    let one : n ≡ m = cc in
    let back : digits ≡ text = written ∙ ap decimal one ∙ sym e in
    let test : false ≡ true = same ∙ (bytes_eq-Decides digits text).1 back in
    absurd (cc)
