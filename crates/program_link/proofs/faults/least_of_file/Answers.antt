use Rattle.std.proofs.Common.{◌∙◌, map, ap}
use Rattle.std.specs.Prelude.{flat_map}
use Rattle.ciao_modules.specs.UnitRanges.{exports_of}
use Rattle.program_link.specs.FaultOrder.{least_from}
use Rattle.program_link.specs.NamedFaults.{broken_fault}
use Rattle.program_link.specs.Faults.{clause_faults}
use Rattle.program_link.specs.Offers.{source_import_faults}
use Rattle.program_link.specs.HeldFaults.{held_export_faults, held_assertion_faults}
use Rattle.program_link.proofs.FaultLaws.{five_in_turn}
use Rattle.program_link.proofs.faults.least_of_file.Goals as goal

pub returns : goal.returns
returns c =
    let names = c.args.names.now in
    let at = c.args.at in
    let unit = c.args.unit.now in
    let source = c.args.source.now in
    let scope = c.args.setting.now.scope in
    five_in_turn c.args.found c.least_of_broken-broken.result c.least_of_exports-exports.result c.least_of_imports-imports.result c.least_of_assertions-assertions.result c.least_of_clauses.result
    (map (broken_fault at) source.parts.broken)
    (flat_map (held_export_faults at source.index) (exports_of unit.exports))
    (flat_map (source_import_faults names c.args.sources.now at) unit.imports)
    (flat_map (held_assertion_faults names scope.types at source.index) source.parts.assertions)
    (flat_map (clause_faults scope at) source.parts.clauses)
    (c.least_of_broken-broken.ensures ∙ ap (λ xs. least_from c.args.found (map (broken_fault at) xs)) c.as_slice.ensures)
    c.least_of_exports-exports.ensures
    (c.least_of_imports-imports.ensures ∙ ap (λ xs. least_from c.least_of_exports-exports.result (flat_map (source_import_faults names c.args.sources.now at) xs)) c.as_slice-2.ensures)
    (c.least_of_assertions-assertions.ensures
    ∙ ap (λ ts. least_from c.least_of_imports-imports.result (flat_map (held_assertion_faults names ts at source.index) c.as_slice-3.result.now)) c.types.ensures
    ∙ ap (λ xs. least_from c.least_of_imports-imports.result (flat_map (held_assertion_faults names scope.types at source.index) xs)) c.as_slice-3.ensures)
    (c.least_of_clauses.ensures ∙ ap (λ xs. least_from c.least_of_assertions-assertions.result (flat_map (clause_faults scope at) xs)) c.as_slice-4.ensures)
