-- What the patches that wait do to a copy.
use Rattle.std.proofs.Common.{◌≡◌, ◌+◌, ◌<◌, ℕ, zero, suc, [], ◌∷◌, ◌++◌, fold, slice_set, refl, ap, ◌∙◌, arith}
use Rattle.std.proofs.lemmas.List.Sums.{fold-append}
use Rattle.ps_face.specs.Values.{Changes, written}
use Rattle.ps_face.specs.Seen.{Copy, Turn, turned}
use Rattle.ps_face.specs.Published.{gathered}

gathered_some : (n : ℕ) (t : Turn) → 0 < n → gathered n t ≡ t ∷ []
gathered_some zero t some = absurd (omega (arith, some))
gathered_some (suc n) t some = refl

-- a turn with the changes of two turns does what these two do, one after the other
both_turned : (x : Copy) (t u : Turn) (changes : Changes) → changes ≡ t.changes ++ u.changes
    → turned x (record u { changes = changes }) ≡ turned (turned x t) u
both_turned x t u changes same =
    let values : written x.values changes ≡ written (written x.values t.changes) u.changes =
    ap (written x.values) same ∙ fold-append (λ vs e. slice_set vs e.0 e.1) x.values t.changes u.changes in
    λ i. record { book = u.book; list = u.list; version = u.version; values = values i }

-- one patch more that waits is taken in after the others
pub gathered_more : (n : ℕ) (x : Copy) (t u : Turn) (changes : Changes) → changes ≡ t.changes ++ u.changes
    → (n ≡ 0 → t.changes ≡ [])
    → fold turned x (gathered (n + 1) (record u { changes = changes })) ≡ turned (fold turned x (gathered n t)) u
gathered_more zero x t u changes same none =
    ap (λ (cs : Changes). turned x (record u { changes = cs })) (same ∙ ap (λ cs. cs ++ u.changes) (none refl))
gathered_more (suc n) x t u changes same none =
    let v : Turn = record u { changes = changes } in
    ap (fold turned x) (gathered_some (suc n + 1) v (omega arith)) ∙ both_turned x t u changes same
