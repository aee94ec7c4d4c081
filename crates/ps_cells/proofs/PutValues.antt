-- One cell shows another value.
use Rattle.std.proofs.Common.{◌≡◌, ◌≢◌, ◌||◌, ◌⊎◌, ◌∙◌, ℕ, Bool, List, ap, eq-eqb, ne_eqb, refl, sym}
use Rattle.std.specs.Prelude.{nat_eq, if◌then◌else◌}
use Rattle.std.specs.List.{list_any}
use Rattle.ps_value.specs.declared.value.Value.{Value}
use Rattle.ps_eval.specs.Items.{Assignment}
use Rattle.ps_shown.specs.Shown.{with_value}
use Rattle.ps_cells.specs.Inside.Walk.{Shows}

pub with_value-here : (v : Assignment) (c : ℕ) (x : Value) → with_value v c x c ≡ x
unfolding with_value
with_value-here v c x = ap (λ b. if b then x else v c) (eq-eqb c c refl)

pub with_value-there : (v : Assignment) (cell c : ℕ) (x : Value) → c ≢ cell → with_value v cell x c ≡ v c
unfolding with_value
with_value-there v cell c x h = ap (λ b. if b then x else v c) (ne_eqb cell c (λ e. h (sym e)))

-- what a put and its flags are
pub shows_put : (x : ℕ) (y : Value) (listed : List ℕ) (u u2 : Assignment) (flags flags2 : ℕ → Bool)
    → u2 ≡ with_value u x y
    → ((y ≡ u x) × ((c : ℕ) → flags2 c ≡ flags c))
    ⊎ ((y ≢ u x) × ((c : ℕ) → flags2 c ≡ (flags c || list_any (nat_eq c) listed)))
    → Shows x y listed u u2 flags flags2
shows_put x y listed u u2 flags flags2 is spread = record {
  here = ap (λ (w : Assignment). w x) is ∙ with_value-here u x y;
  others = λ c ne. ap (λ (w : Assignment). w c) is ∙ with_value-there u x c y ne;
  spread = spread;
}
