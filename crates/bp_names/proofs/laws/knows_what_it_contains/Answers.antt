use Rattle.std.proofs.lemmas.Map.Views.{list_any-from_Contains, Contains-from_any}
use Rattle.std.proofs.lemmas.Cmp.{nat_list_eq_equiv}
use Rattle.bp_faults.proofs.Lists.{same_bytes}
use Rattle.bp_names.proofs.laws.knows_what_it_contains.Goals as goal

pub returns : goal.returns
returns c names name = (Contains-from_any same_bytes name names, list_any-from_Contains nat_list_eq_equiv name names)
