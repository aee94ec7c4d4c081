-- Whether two values are the same.
use Rattle.std.proofs.Common.{◌≡◌, refl, ap, ⊎_elim}
use Rattle.std.specs.Prelude.{◌⊎◌}
use Rattle.std.proofs.lemmas.Bool.{cases_eq}
use mathlib.Core.Logic.{inl, inr}
use base.Stored.{Gv, gnil, gnum, gcons, num}
use Rattle.ps_value.specs.declared.value.Value.{Value}
use Rattle.ps_value.specs.contracts.value.Value as value

front_of : Gv → Gv
front_of gnil = gnil
front_of (gnum n) = gnil
front_of (gcons a b) = a

rest_of : Gv → Gv
rest_of gnil = gnil
rest_of (gnum n) = gnil
rest_of (gcons a b) = b

code_decided : (a b : Gv) → (a ≡ b) ⊎ ¬ (a ≡ b)
unfolding front_of rest_of
code_decided gnil gnil = inl refl
code_decided gnil (gnum n) = inr (λ e. cc)
code_decided gnil (gcons c d) = inr (λ e. cc)
code_decided (gnum m) gnil = inr (λ e. cc)
code_decided (gnum m) (gnum n) = ⊎_elim (λ e. inl (ap gnum e)) (λ ne. inr (λ e. ne (ap num e))) (cases_eq m n)
code_decided (gnum m) (gcons c d) = inr (λ e. cc)
code_decided (gcons a b) gnil = inr (λ e. cc)
code_decided (gcons a b) (gnum n) = inr (λ e. cc)
code_decided (gcons a b) (gcons c d) =
    ⊎_elim
    (λ (e : a ≡ c). ⊎_elim (λ (f : b ≡ d). inl (λ i. gcons (e i) (f i))) (λ nf. inr (λ p. nf (ap rest_of p)))
    (code_decided b d))
    (λ ne. inr (λ p. ne (ap front_of p)))
    (code_decided a c)

pub value_decided : (v w : Value) → (v ≡ w) ⊎ ¬ (v ≡ w)
value_decided v w =
    ⊎_elim
    (λ e. inl (value.the_row.coded.inj v w e))
    (λ ne. inr (λ e. ne (ap value.the_row.coded.code e)))
    (code_decided (value.the_row.coded.code v) (value.the_row.coded.code w))
