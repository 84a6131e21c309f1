-- The answer of a whole text.
use Rattle.std.proofs.Common.{◌≡◌, ℕ, List, [], map, Option, ap, sym, ◌∙◌}
use Rattle.std.specs.List.{flat_map}
use Rattle.ninja_lines.specs.Meaning.{JoinedLine, joined_lines}
use Rattle.ninja_read.specs.Book.{Book, no_book, book_file, statements_of, rules_of}
use Rattle.ninja_read.specs.Meaning.{read_lines, reading, answer, refused_line, or_line, repeated_out, stray}
use Rattle.ninja_read.specs.Meaning.{unless_refused}
use Rattle.ninja_file.specs.declared.file.NinjaRule.{NinjaRule}
use Rattle.ninja_file.specs.declared.file.Statement.{Statement}

whole : (bytes : List ℕ) (found : List JoinedLine) (book : Book) (stop : Option ℕ) → found ≡ joined_lines bytes
    → (book, stop) ≡ read_lines no_book found → reading bytes ≡ unless_refused (refused_line book stop) (book_file book)
whole bytes found book stop is read = ap (λ f. answer (read_lines no_book f)) (sym is) ∙ ap answer (sym read)

refused_is : (book : Book) (stop : Option ℕ) (statements : List (ℕ × Statement)) (defaults : List (ℕ × List ℕ))
    → statements ≡ statements_of book → defaults ≡ book.defaults → or_line (repeated_out [] statements)
    (or_line stop (stray (flat_map (λ s. s.1.outs) statements) defaults)) ≡ refused_line book stop
refused_is book stop statements defaults s d =
    ap (λ ss. or_line (repeated_out [] ss) (or_line stop (stray (flat_map (λ t. t.1.outs) ss) defaults))) s
    ∙ ap (λ ds. or_line (repeated_out [] (statements_of book))
    (or_line stop (stray (flat_map (λ t. t.1.outs) (statements_of book)) ds))) d

pub answered : (bytes : List ℕ) (found : List JoinedLine) (book : Book) (stop line : Option ℕ)
    (statements : List (ℕ × Statement)) (defaults : List (ℕ × List ℕ)) → found ≡ joined_lines bytes
    → (book, stop) ≡ read_lines no_book found → statements ≡ statements_of book → defaults ≡ book.defaults
    → line ≡ or_line (repeated_out [] statements) (or_line stop (stray (flat_map (λ s. s.1.outs) statements) defaults))
    → reading bytes ≡ unless_refused line (book_file book)
answered bytes found book stop line statements defaults is read s d l =
    whole bytes found book stop is read
    ∙ ap (λ x. unless_refused x (book_file book)) (sym (l ∙ refused_is book stop statements defaults s d))

pub file_is : (book : Book) (rules : List NinjaRule) (statements : List (ℕ × Statement)) (defaults : List (ℕ × List ℕ))
    → rules ≡ rules_of book → statements ≡ statements_of book → defaults ≡ book.defaults → book_file book
    ≡ record { rules = rules; statements = map (λ s. s.1) statements; defaults = map (λ d. d.1) defaults }
file_is book rules statements defaults r s d =
    sym (ap (λ x. record { rules = x; statements = map (λ t. t.1) statements; defaults = map (λ t. t.1) defaults }) r
    ∙ ap (λ x. record { rules = rules_of book; statements = map (λ t. t.1) x; defaults = map (λ t. t.1) defaults }) s
    ∙ ap (λ x.
    record { rules = rules_of book; statements = map (λ t. t.1) (statements_of book); defaults = map (λ t. t.1) x }) d)
