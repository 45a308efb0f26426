use Rattle.std.proofs.Common.{◌≡◌, ◌++◌, drop, map}
use Rattle.unit_scopes.specs.Held.{module_held}
use Rattle.unit_scopes.proofs.types.add_modules.Given as goal

abbrev pub invariant-loop-source : goal.invariant-loop-source
invariant-loop-source l = l.modules ++ map (module_held l.sources) (drop l.source-index l.sources) ≡ l.fn.modules ++ map (module_held l.sources) l.sources
