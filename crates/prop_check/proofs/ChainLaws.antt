-- A chain with a link is not at its end, and has the sets of the link and of those behind it.
use Rattle.std.proofs.Common.{◌≡◌, ℕ, Bool, false, List, [], ◌∷◌, ap, sym, ◌∙◌, Bor}
use Rattle.std.specs.Prelude.{Option, Some, None, option_copied}
use Rattle.prog_data.specs.Values.{bit_at}
use Rattle.prop_check.specs.declared.chains.Known.{Known}
use Rattle.prop_check.specs.declared.chains.Known.TheViews.{roll-Known}
use Rattle.prop_check.specs.declared.chains.Known.TheFolds.{fold_out-Known, fold-roll-Known}
use Rattle.prop_check.specs.Sets.{each_has}
use Rattle.prop_check.specs.Chains.{link, sets_of, sets_behind}

pub goes_on : (o : Option Known) (k : Known) → o ≡ Some k → false ≡ each_has (sets_behind o) []
goes_on o k e = sym (ap (λ p. each_has (sets_behind p) []) e ∙ ap (λ s. each_has s []) (fold_out-Known (List (ℕ → Bool)) link k))

pub sets_linked : (names : Bor (List ℕ)) (behind : Option (Bor Known)) → sets_of (roll-Known (record { names = names; behind = behind })) ≡ bit_at names.now ∷ sets_behind (option_copied behind)
sets_linked names None = fold-roll-Known (List (ℕ → Bool)) link (record { names = names; behind = None })
sets_linked names (Some k) = fold-roll-Known (List (ℕ → Bool)) link (record { names = names; behind = Some k })
