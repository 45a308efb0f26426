-- What is done with the words of values is done with the values.
use Rattle.std.proofs.Common.{◌≡◌, ℕ, true, ◌&&◌, ◌||◌, List, ap, sym, ◌∙◌}
use Rattle.std.specs.Prelude.{Some, option_map}
use Rattle.std.specs.List.{list_any, list_all}
use Rattle.prog_data.specs.declared.tables.Value.{Value}
use Rattle.prog_data.specs.Values.{TypeValue, bit_at, seen}
use Rattle.name_order.specs.Relations.{Order}
use Rattle.type_domain.specs.Values.{all_fit, unless_apart, join, meet, is_set, leaf_builds, where_fits, build}
use Rattle.type_domain.specs.Meeting.{united, fitting}

-- an operation on two values that are not none
both : (op : TypeValue → TypeValue → TypeValue) (a b : Value) (l r : List ℕ) → a.names ≡ Some l → b.names ≡ Some r → op (Some (bit_at l)) (Some (bit_at r)) ≡ op (seen a) (seen b)
both op a b l r d e = sym (ap (λ x. op (option_map bit_at x) (seen b)) d ∙ ap (λ x. op (Some (bit_at l)) (option_map bit_at x)) e)

pub joined_both : (a b : Value) (l r w : List ℕ) → a.names ≡ Some l → b.names ≡ Some r → bit_at w ≡ (λ n. bit_at l n && bit_at r n) → Some (bit_at w) ≡ join (seen a) (seen b)
joined_both a b l r w d e f = ap Some f ∙ both join a b l r d e

pub met_both : (o : Order) (a b result : Value) (l r w : List ℕ) → a.names ≡ Some l → b.names ≡ Some r → bit_at w ≡ (λ n. bit_at l n || bit_at r n) → seen result ≡ unless_apart (all_fit o (bit_at w)) (bit_at w) → seen result ≡ meet o (seen a) (seen b)
met_both o a b result l r w d e f is = is ∙ ap (λ p. unless_apart (all_fit o p) p) f ∙ both (meet o) a b l r d e

pub built : (o : Order) (f : ℕ) (vs : List TypeValue) (words : List ℕ) → bit_at words ≡ (λ n. list_any (leaf_builds f vs) (o.leaves n)) → list_all is_set vs ≡ true → Some (bit_at words) ≡ build o f vs
built o f vs words e is = ap Some e ∙ sym (ap (λ b. where_fits b (Some (λ n. list_any (leaf_builds f vs) (o.leaves n)))) is)

pub united_both : (a b : Value) (l r w : List ℕ) → a.names ≡ Some l → b.names ≡ Some r → bit_at w ≡ (λ n. bit_at l n || bit_at r n) → Some (bit_at w) ≡ united (seen a) (seen b)
united_both a b l r w d e f = ap Some f ∙ both united a b l r d e

pub fitting_one : (o : Order) (a result : Value) (l : List ℕ) → a.names ≡ Some l → seen result ≡ unless_apart (all_fit o (bit_at l)) (bit_at l) → seen result ≡ fitting o (seen a)
fitting_one o a result l e is = is ∙ sym (ap (λ x. fitting o (option_map bit_at x)) e)
