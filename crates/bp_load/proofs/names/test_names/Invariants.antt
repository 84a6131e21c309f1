use Rattle.std.proofs.Common.{◌≡◌, [], map, take, drop}
use Rattle.bp_names.specs.Meaning.{IsSetOf}
use Rattle.bp_props.specs.declared.module.Module.{Module}
use Rattle.bp_load.specs.Numbered.{numbered_names}
use Rattle.bp_load.specs.Loaded.{names_tested}
use Rattle.bp_load.proofs.names.test_names.Given as goal

abbrev pub invariant-modules : goal.invariant-modules
invariant-modules l =
    let before = take l.module-index l.modules in
    record {
      counted : l.count ≡ l.module-index;
      known : IsSetOf (map (λ (m : Module). m.name) before) (numbered_names l.known);
      left : names_tested [] l.modules ≡ names_tested before (drop l.module-index l.modules);
    }
