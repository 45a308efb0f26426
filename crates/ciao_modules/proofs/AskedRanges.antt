-- What sentences in range ask is in range.
use Rattle.std.proofs.Common.{◌≡◌, ◌<◌, ℕ, Bool, true, false, List, [], ◌∷◌, length, Option, Some, None, sym, ap, ◌∙◌}
use Rattle.std.specs.Prelude.{⊤, ◌&&◌, ◌==◌, if◌then◌else◌, option_map, IfSome, bytes_eq, codes}
use Rattle.std.specs.Option.{option_map_or, option_or}
use Rattle.std.specs.List.{AllByRecursion, list_all}
use Rattle.term_core.specs.Characters.{is_lower_word}
use Rattle.term_core.specs.Names.{name_text}
use Rattle.term_core.specs.declared.fixed.TheConstants.{LIBRARY, NECK}
use Rattle.term_core.specs.declared.terms.Term.{Term, out-Term, roll-Term, roll-out-Term}
use Rattle.term_core.specs.declared.terms.Term.TheOpen as layer
use Rattle.term_core.specs.declared.terms.Term.TheOpen.{Term-F}
use Rattle.term_core.specs.declared.terms.Term.TheVariants.{rolls-Atom, rolls-Node}
use Rattle.term_core.specs.Ranges.{has_names}
use Rattle.prog_data.specs.declared.refusals.RefusalKind.TheVariants.{UnknownDirective, UnknownPackage, UnknownLibrary}
use Rattle.ciao_reader.specs.Changes.{alone, listed}
use Rattle.ciao_modules.specs.FileNames.{Word}
use Rattle.ciao_modules.specs.Libraries.{library_named}
use Rattle.ciao_modules.specs.Listings.{one_name, exports_in, one_or_more}
use Rattle.ciao_modules.specs.Directives.{is_declaration, is_module_directive, is_passed_over, is_package, names_text, export, packages_of, use_package, uses_library, uses, use_module, asked_named, asked_at, asked_in, asked}
use Rattle.ciao_modules.specs.Headings.{exported, with_packages, is_own, heading_of, heading_at, heading_in, heading}
use Rattle.ciao_modules.specs.UnitRanges.{AreExportsInRange}
use Rattle.ciao_modules.specs.Stages.{IsModuleInRange}
use Rattle.ciao_modules.proofs.TermNames.{PartsNamed, node_named, atom_named, exports_named, some_exports_named}
use Rattle.ciao_modules.specs.declared.libraries.Library.{Library}
use Rattle.ciao_modules.specs.declared.units.Export.{Export}
use Rattle.ciao_modules.specs.declared.queue.Module.TheVariants as module_of
use Rattle.ciao_modules.specs.declared.directives.Asked.{Asked}
use Rattle.ciao_modules.specs.declared.directives.Asked.TheVariants as asks
use Rattle.ciao_modules.specs.declared.headings.Exported.{Exported}
use Rattle.ciao_modules.specs.declared.headings.Heading.{Heading}

module _ (n : ℕ) where
  abbrev AreNamed : List Term → Type 0
  AreNamed ts = AllByRecursion (λ t. has_names n t ≡ true) ts

  -- a term at its outermost
  abbrev IsNamedLayer : Term-F Term → Type 0
  IsNamedLayer (layer.Atom a) = a < n
  IsNamedLayer (layer.Node f ts) = PartsNamed n f ts
  IsNamedLayer other = ⊤

  layered : (l : Term-F Term) → has_names n (roll-Term l) ≡ true → IsNamedLayer l
  layered (layer.Var v) e = tt
  layered (layer.Int i) e = tt
  layered (layer.Atom a) e = atom_named n a (ap (has_names n) (sym (rolls-Atom a)) ∙ e)
  layered (layer.Node f ts) e = node_named n f ts (ap (has_names n) (sym (rolls-Node f ts)) ∙ e)

  out_named : (t : Term) → has_names n t ≡ true → IsNamedLayer (out-Term t)
  out_named t e = layered (out-Term t) (ap (has_names n) (roll-out-Term t) ∙ e)

  abbrev pub IsAskedInRange : Asked → Type 0
  IsAskedInRange (asks.Exports exports) = AreExportsInRange n exports
  IsAskedInRange (asks.Uses used only) = IsModuleInRange n used × IfSome only (AreExportsInRange n)
  IsAskedInRange other = ⊤

  either : (b : Bool) (a c : Asked) → IsAskedInRange a → IsAskedInRange c → IsAskedInRange (if b then a else c)
  either true a c p q = p
  either false a c p q = q

  exports_asked : (o : Option (List Export)) → IfSome o (AreExportsInRange n) → IsAskedInRange (option_map_or asks.Exports o (asks.Refused UnknownDirective))
  exports_asked None w = tt
  exports_asked (Some es) w = w

  export_asked : (line : ℕ) (ts : List Term) → AreNamed ts → IsAskedInRange (export line ts)
  export_asked line [] named = tt
  export_asked line (e ∷ []) named = exports_asked (one_or_more line e) (some_exports_named n line e named.0)
  export_asked line (e ∷ d ∷ ts) named = tt

  module _ (names : List Word) where
    packages_asked : (ns : List ℕ) → IsAskedInRange (packages_of names ns)
    packages_asked ns = either (list_all (λ n. is_package (name_text names n)) ns) (asks.Packages (record { dcg = names_text names (codes "dcg") ns; fsyntax = names_text names (codes "fsyntax") ns })) (asks.Refused UnknownPackage) tt tt

    some_packages_asked : (o : Option (List ℕ)) → IsAskedInRange (option_map_or (packages_of names) o (asks.Refused UnknownDirective))
    some_packages_asked None = tt
    some_packages_asked (Some ns) = packages_asked ns

    use_package_asked : (ts : List Term) → IsAskedInRange (use_package names ts)
    use_package_asked [] = tt
    use_package_asked (p ∷ []) = some_packages_asked (option_or (listed p) (one_name (alone p)))
    use_package_asked (p ∷ q ∷ ts) = tt

    module _ (only : Option (List Export)) (only_named : IfSome only (AreExportsInRange n)) where
      library_asked : (o : Option Library) → IsAskedInRange (option_map_or (λ library. asks.Uses (module_of.Library library) only) o (asks.Refused UnknownLibrary))
      library_asked None = tt
      library_asked (Some library) = (tt, only_named)

      uses_library_asked : (l : Term-F Term) → IsAskedInRange (uses_library names only l)
      uses_library_asked (layer.Var v) = tt
      uses_library_asked (layer.Int i) = tt
      uses_library_asked (layer.Atom a) = library_asked (library_named (name_text names a))
      uses_library_asked (layer.Node f ts) = tt

      uses_asked : (l : Term-F Term) → IsNamedLayer l → IsAskedInRange (uses names only l)
      uses_asked (layer.Var v) w = tt
      uses_asked (layer.Int i) w = tt
      uses_asked (layer.Atom a) w = either (is_lower_word (name_text names a)) (asks.Uses (module_of.File a) only) (asks.Refused UnknownDirective) (w, only_named) tt
      uses_asked (layer.Node f []) w = tt
      uses_asked (layer.Node f (l ∷ [])) w = either (f == LIBRARY) (uses_library names only (out-Term l)) (asks.Refused UnknownDirective) (uses_library_asked (out-Term l)) tt
      uses_asked (layer.Node f (l ∷ k ∷ ts)) w = tt

    uses_some_asked : (l : Term-F Term) (o : Option (List Export)) → IsNamedLayer l → IfSome o (AreExportsInRange n) → IsAskedInRange (option_map_or (λ exports. uses names (Some exports) l) o (asks.Refused UnknownDirective))
    uses_some_asked l None w v = tt
    uses_some_asked l (Some es) w v = uses_asked (Some es) v l w

    use_module_asked : (line : ℕ) (ts : List Term) → AreNamed ts → IsAskedInRange (use_module names line ts)
    use_module_asked line [] named = tt
    use_module_asked line (m ∷ []) named = uses_asked None tt (out-Term m) (out_named m named.0)
    use_module_asked line (m ∷ l ∷ []) named = uses_some_asked (out-Term m) (exports_in line l) (out_named m named.0) (exports_named n line l named.1.0)
    use_module_asked line (m ∷ l ∷ k ∷ ts) named = tt

    named_asked : (line : ℕ) (text : Word) (f : ℕ) (ts : List Term) → AreNamed ts → IsAskedInRange (asked_named names line text f ts)
    named_asked line text f ts named =
        either (is_declaration f && length ts == 1) _ _ tt
        (either (is_module_directive text (length ts)) _ _ tt
        (either (is_passed_over text (length ts)) _ _ tt
        (either (bytes_eq text (codes "export")) _ _ (export_asked line ts named)
        (either (bytes_eq text (codes "use_package")) _ _ (use_package_asked ts)
        (either (bytes_eq text (codes "use_module")) _ (asks.Refused UnknownDirective) (use_module_asked line ts named) tt)))))

    at_asked : (line : ℕ) (l : Term-F Term) → IsNamedLayer l → IsAskedInRange (asked_at names line l)
    at_asked line (layer.Var v) w = tt
    at_asked line (layer.Int i) w = tt
    at_asked line (layer.Atom a) w = tt
    at_asked line (layer.Node f ts) w = named_asked line (name_text names f) f ts w.parts

    in_asked : (line : ℕ) (l : Term-F Term) → IsNamedLayer l → IsAskedInRange (asked_in names line l)
    in_asked line (layer.Var v) w = tt
    in_asked line (layer.Int i) w = tt
    in_asked line (layer.Atom a) w = tt
    in_asked line (layer.Node f []) w = tt
    in_asked line (layer.Node f (d ∷ [])) w = either (f == NECK) (asked_at names line (out-Term d)) asks.Nothing (at_asked line (out-Term d) (out_named d w.parts.0)) tt
    in_asked line (layer.Node f (d ∷ e ∷ ts)) w = tt

    -- what a sentence asks
    pub asked_in_range : (line : ℕ) (t : Term) → has_names n t ≡ true → IsAskedInRange (asked names line t)
    asked_in_range line t e = in_asked line (out-Term t) (out_named t e)

    -- what packages ask
    pub packages_in_range : (ns : List ℕ) → IsAskedInRange (packages_of names ns)
    packages_in_range ns = packages_asked ns

  -- module directives

  abbrev pub IsHeadingInRange : Option Heading → Type 0
  IsHeadingInRange h = IfSome h (λ h. AreExportsInRange n h.exported.exports)

  if_heading : (b : Bool) (h : Option Heading) → IsHeadingInRange h → IsHeadingInRange (if b then h else None)
  if_heading true h w = w
  if_heading false h w = tt

  abbrev IsExportedInRange : Exported → Type 0
  IsExportedInRange e = AreExportsInRange n e.exports

  abbrev as_listed : List Export → Exported
  as_listed exports = record { all = false; exports = exports }

  listed_exports : (o : Option (List Export)) → IfSome o (AreExportsInRange n) → IfSome (option_map as_listed o) IsExportedInRange
  listed_exports None w = tt
  listed_exports (Some es) w = w

  exported_named : (line : ℕ) (l : Term-F Term) (t : Term) → has_names n t ≡ true → IfSome (exported line l t) IsExportedInRange
  exported_named line (layer.Var v) t e = tt
  exported_named line (layer.Int i) t e = listed_exports (exports_in line t) (exports_named n line t e)
  exported_named line (layer.Atom a) t e = listed_exports (exports_in line t) (exports_named n line t e)
  exported_named line (layer.Node f ts) t e = listed_exports (exports_in line t) (exports_named n line t e)

  packaged : (e : Option Exported) (ps : Option (List ℕ)) → IfSome e IsExportedInRange → IsHeadingInRange (with_packages e ps)
  packaged None ps w = tt
  packaged (Some e) None w = tt
  packaged (Some e) (Some ps) w = w

  module _ (names : List Word) (own : Word) where
    of_heading : (line : ℕ) (ts : List Term) → AreNamed ts → IsHeadingInRange (heading_of names own line ts)
    of_heading line [] named = tt
    of_heading line (m ∷ []) named = tt
    of_heading line (m ∷ e ∷ []) named = if_heading (is_own names own (out-Term m)) (with_packages (exported line (out-Term e) e) (Some [])) (packaged (exported line (out-Term e) e) (Some []) (exported_named line (out-Term e) e named.1.0))
    of_heading line (m ∷ e ∷ p ∷ []) named = if_heading (is_own names own (out-Term m)) (with_packages (exported line (out-Term e) e) (listed p)) (packaged (exported line (out-Term e) e) (listed p) (exported_named line (out-Term e) e named.1.0))
    of_heading line (m ∷ e ∷ p ∷ q ∷ ts) named = tt

    at_heading : (line : ℕ) (l : Term-F Term) → IsNamedLayer l → IsHeadingInRange (heading_at names own line l)
    at_heading line (layer.Var v) w = tt
    at_heading line (layer.Int i) w = tt
    at_heading line (layer.Atom a) w = tt
    at_heading line (layer.Node f ts) w = if_heading (bytes_eq (name_text names f) (codes "module")) (heading_of names own line ts) (of_heading line ts w.parts)

    in_heading : (line : ℕ) (l : Term-F Term) → IsNamedLayer l → IsHeadingInRange (heading_in names own line l)
    in_heading line (layer.Var v) w = tt
    in_heading line (layer.Int i) w = tt
    in_heading line (layer.Atom a) w = tt
    in_heading line (layer.Node f []) w = tt
    in_heading line (layer.Node f (d ∷ [])) w = if_heading (f == NECK) (heading_at names own line (out-Term d)) (at_heading line (out-Term d) (out_named d w.parts.0))
    in_heading line (layer.Node f (d ∷ e ∷ ts)) w = tt

    -- the module directive that a sentence is
    pub heading_in_range : (line : ℕ) (t : Term) → has_names n t ≡ true → IsHeadingInRange (heading names own line t)
    heading_in_range line t e = in_heading line (out-Term t) (out_named t e)
