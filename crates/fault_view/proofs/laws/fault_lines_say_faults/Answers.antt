use Rattle.std.specs.Fmt.{decimal}
use Rattle.bp_faults.specs.Kinds.{fault_number, fault_text}
use Rattle.bp_faults.specs.Line.{path_at, subject_tail, what_of}
use Rattle.fault_view.proofs.Said.{number_small, regrouped}
use Rattle.fault_view.proofs.laws.fault_lines_say_faults.Goals as goal

pub returns : goal.returns
returns c = λ fault files utf8 plain line col. record {
  whole =
      regrouped (path_at files fault.at.file) (decimal fault.at.line) (decimal fault.at.col)
      (decimal (fault_number fault.kind)) (fault_text fault.kind)
      (subject_tail (what_of fault.kind fault.subject fault.chain));
  utf8 = utf8;
  path = plain;
  line = line;
  col = col;
  number = number_small fault.kind;
}
