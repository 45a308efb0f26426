use Rattle.std.proofs.Common.{refl, sym, subst, Some}
use Rattle.std.specs.Prelude.{Ok}
use Rattle.ciao_modules.specs.Stages.{IsReadOf}
use Rattle.ciao_modules.proofs.FileReads.{library_read_of}
use Rattle.ciao_modules.proofs.loading.read_content.Goals as goal

pub returns-in-Ok-clause-read : goal.returns-in-Ok-clause-read
returns-in-Ok-clause-read g c =
    let reads = g.F.Files.reads c.args.files.now in
    subst (λ u. IsReadOf (g.F.Files.held c.args.files.now) c.args.path.now u reads reads (Ok (Some c.in-Ok.bytes.items))) (sym c.in-Library.is)
    (library_read_of (g.F.Files.held c.args.files.now) c.args.path.now c.in-Library.library reads reads c.in-Ok.bytes.items refl c.in-Ok.ensures)
