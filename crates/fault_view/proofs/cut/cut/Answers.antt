use Rattle.std.proofs.Common.{Some, None, lit<, codes}
use Rattle.std.proofs.lemmas.Str.Pattern.{strip_prefix_char, strip_suffix_char}
use Rattle.fault_view.proofs.Prefixes.{stripped}
use Rattle.fault_view.proofs.Cuts.{no_path, no_line, no_col, no_error, no_number, no_space, no_end, line_is}
use Rattle.fault_view.proofs.cut.cut.Goals as goal

pub returns-in_err-path : goal.returns-in_err-path
returns-in_err-path c = rw c.from_residual.ensures (no_path c.args.text.now c.in_err-path.ensures.cases)

pub returns-in_err-line : goal.returns-in_err-line
returns-in_err-line c =
    let a = c.in_ok-path in
    rw c.from_residual-in_err-line.ensures
    (no_line c.args.text.now a.path a.behind_path a.ensures.cases c.in_err-line.ensures)

pub returns-in_err-col : goal.returns-in_err-col
returns-in_err-col c =
    let a = c.in_ok-path in
    let l = c.in_ok-line in
    rw c.from_residual-in_err-col.ensures
    (no_col c.args.text.now a.path a.behind_path a.ensures.cases l.line l.behind_line.now l.ensures
    c.in_err-col.ensures)

pub returns-in_err-behind_error : goal.returns-in_err-behind_error
returns-in_err-behind_error c =
    let a = c.in_ok-path in
    let l = c.in_ok-line in
    let k = c.in_ok-col in
    rw c.from_residual-in_err-behind_error.ensures
    (no_error c.args.text.now a.path a.behind_path a.ensures.cases l.line l.behind_line.now l.ensures k.col
    k.behind_col.now k.ensures c.in_err-behind_error.ensures.cases)

pub returns-in_err-number : goal.returns-in_err-number
returns-in_err-number c =
    let a = c.in_ok-path in
    let l = c.in_ok-line in
    let k = c.in_ok-col in
    let p = c.in_ok-behind_error in
    rw c.from_residual-in_err-number.ensures
    (no_number c.args.text.now a.path a.behind_path a.ensures.cases l.line l.behind_line.now l.ensures k.col
    k.behind_col.now k.ensures p.behind_error.now
    (stripped (codes " error ") k.behind_col.now p.behind_error.now p.ensures.cases) c.in_err-number.ensures)

pub returns-in_err-ended : goal.returns-in_err-ended
returns-in_err-ended c =
    let a = c.in_ok-path in
    let l = c.in_ok-line in
    let k = c.in_ok-col in
    let p = c.in_ok-behind_error in
    let n = c.in_ok-number in
    rw c.from_residual-in_err-ended.ensures
    (no_space c.args.text.now a.path a.behind_path a.ensures.cases l.line l.behind_line.now l.ensures k.col
    k.behind_col.now k.ensures p.behind_error.now (stripped (codes " error ") k.behind_col.now p.behind_error.now
    p.ensures.cases) n.number n.behind_number.now n.ensures
    (strip_prefix_char 32 n.behind_number.now None c.in_err-ended.ensures.cases (lit< tt)))

pub returns-in_err-what : goal.returns-in_err-what
returns-in_err-what c =
    let a = c.in_ok-path in
    let l = c.in_ok-line in
    let k = c.in_ok-col in
    let p = c.in_ok-behind_error in
    let n = c.in_ok-number in
    let s = c.in_ok-ended in
    rw c.from_residual-in_err-what.ensures
    (no_end c.args.text.now a.path a.behind_path a.ensures.cases l.line l.behind_line.now l.ensures k.col
    k.behind_col.now k.ensures p.behind_error.now
    (stripped (codes " error ") k.behind_col.now p.behind_error.now p.ensures.cases) n.number n.behind_number.now
    n.ensures s.ended.now (strip_prefix_char 32 n.behind_number.now (Some s.ended) s.ensures.cases (lit< tt))
    (strip_suffix_char 10 s.ended.now None c.in_err-what.ensures.cases (lit< tt)))

pub returns : goal.returns
returns c =
    let a = c.in_ok-path in
    let l = c.in_ok-line in
    let k = c.in_ok-col in
    let p = c.in_ok-behind_error in
    let n = c.in_ok-number in
    let s = c.in_ok-ended in
    let w = c.in_ok-what in
    line_is c.args.text.now a.path a.behind_path a.ensures.cases l.line l.behind_line.now l.ensures k.col
    k.behind_col.now k.ensures p.behind_error.now
    (stripped (codes " error ") k.behind_col.now p.behind_error.now p.ensures.cases) n.number n.behind_number.now
    n.ensures s.ended.now (strip_prefix_char 32 n.behind_number.now (Some s.ended) s.ensures.cases (lit< tt)) w.what.now
    (strip_suffix_char 10 s.ended.now (Some w.what) w.ensures.cases (lit< tt)) c.utf8.text
