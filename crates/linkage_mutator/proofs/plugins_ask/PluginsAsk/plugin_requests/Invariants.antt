use Rattle.std.proofs.Common.{◌≡◌, map, take}
use Rattle.linkage_mutator.specs.Plugins.{plugin_request}
use Rattle.linkage_mutator.proofs.plugins_ask.PluginsAsk.plugin_requests.Given as goal

abbrev pub invariant-loop-item : goal.invariant-loop-item
invariant-loop-item l = l.asked ≡ map (plugin_request l.self l.vars) (take l.item-index l.items)
