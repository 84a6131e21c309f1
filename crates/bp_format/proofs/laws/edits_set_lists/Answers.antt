use Rattle.bp_format.proofs.Lexing.{Lexing}
use Rattle.bp_format.proofs.SetLists.{Parsing, edits_set_lists}
use Rattle.bp_format.proofs.laws.edits_set_lists.Goals as goal

pub returns : goal.returns
returns c =
    let lex : Lexing = record {
      bytes = c.forms_have_bytes.ensures;
      apart = c.forms_stand_apart.ensures;
      within = c.tokens_stand_within.ensures;
      rise = c.places_rise.ensures;
      one_list = c.one_token_list.ensures;
    } in
    let law : Parsing = record {
      one_tree = c.one_tree.ensures;
      distinct = c.names_of_a_map_differ.ensures;
      trees = c.spelled_definitions_are_trees.ensures;
    } in
    λ file text out w ts tree name items means listed parsed.
    edits_set_lists lex law file text out w ts tree name items means.0 listed parsed
