use Rattle.std.proofs.Common.{◌≡◌, ◌++◌, drop, map}
use Rattle.unit_scopes.specs.Held.{setting_held}
use Rattle.unit_scopes.proofs.settings.settings_held.Given as goal

abbrev pub invariant-loop-source : goal.invariant-loop-source
invariant-loop-source l = l.settings ++ map (setting_held l.firsts l.sources) (drop l.source-index l.sources) ≡ map (setting_held l.firsts l.sources) l.sources
