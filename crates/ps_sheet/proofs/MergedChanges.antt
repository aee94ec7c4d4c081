-- A sheet after a merge of a delta.
use Rattle.std.proofs.Common.{◌≡◌, ◌⊎◌, inl, inr, ◌∷◌, [], ℕ, ◌+◌, Option, Some, None, List, length}
use Rattle.std.proofs.Common.{Result, Ok, Err, refl, sym, ap, ◌∙◌, subst, arith, ⊎_elim, true≢false, length-append}
use Rattle.std.specs.Prelude.{◌↔◌, IsTrue, IsOk, IfOk, IfErr, OnOk}
use Rattle.std.specs.Option.{IfSome, is_none}
use Rattle.ps_grid.specs.declared.refusal.Refusal.{Refusal}
use Rattle.ps_grid.specs.declared.refusal.Refusal.TheVariants.{Memory}
use Rattle.ps_lattice.specs.News.{IsNewsOf}
use Rattle.ps_delta.specs.State.{State, IsBelow, joined_state}
use Rattle.ps_delta.specs.Deltas.{Entries, IsDelta, state_of, joined_history}
use Rattle.ps_delta.proofs.HistoryLemmas.{joined_history-push}
use Rattle.ps_delta.specs.declared.edit.Change.TheVariants.{Merge}
use Rattle.ps_sheet.specs.Merges.{IsMergedAs, IsNewsDelta, Merges}
use Rattle.ps_sheet.specs.Sheet.{SheetView}
use Rattle.ps_sheet.specs.Staging.{IsIdle}
use Rattle.ps_sheet.specs.Inside.Kept.{Makes}
use Rattle.ps_sheet.specs.declared.sheet.Report.{Report}

-- the news of a delta isn't below the state that it is new to
pub news_is_fresh : (s : State) (d n : Entries) → IsNewsDelta s d n → ¬ IsBelow (state_of n) s
news_is_fresh s d n news below = news.some (sym news.news.same ∙ below)

-- what a grid with this state returned as new
pub news_found : (s t : State) (d : Entries) (res : Result (Option Entries) Refusal) → t ≡ s
    → IfOk res (λ o. IfSome o (λ n. IsNewsOf joined_state t (state_of d) (state_of n)))
    → IfOk res (λ o. IfSome o IsDelta)
    → IfOk res (λ o. IsTrue (is_none o) ↔ IsBelow (state_of d) t) → IfOk res (λ o. IfSome o (IsNewsDelta s d))
news_found s t d (Err e) is news delta known = tt
news_found s t d (Ok None) is news delta known = tt
news_found s t d (Ok (Some n)) is news delta known =
    subst (λ u. IsNewsDelta u d n) is
    (record { some = λ below. true≢false (sym (known.1 below)); news = news; delta = delta })

-- a merged delta is joined in
pub merge_joins : (d : Entries) (h k : List Entries) → Merges d h k
    → joined_history k ≡ joined_state (joined_history h) (state_of d)
merge_joins d h k (inl known) = ap joined_history known.1 ∙ sym known.0
merge_joins d h k (inr new) = ap joined_history new.2 ∙ joined_history-push h new.0 ∙ new.1.news.same

module _ (x y : SheetView) (d : Entries) where
  -- if the delta is below the state, the sheet stays as it is
  stays : (r : Report) → Makes x y (Merge d) r → IsBelow (state_of d) (joined_history x.history) → IsIdle x y r
  stays r made below = by made.of
    where
      by : IsMergedAs (joined_history x.history) d made.delta → IsIdle x y r
      by (inl known) =
          made.idle (subst (λ e. IsBelow (state_of e) (joined_history x.history)) (sym known.1) below)
      by (inr news) = absurd (news.some below)

  made_merge : (r : Report) → Makes x y (Merge d) r → Merges d x.history y.history
  made_merge r made = by made.of
    where
      by : IsMergedAs (joined_history x.history) d made.delta → Merges d x.history y.history
      by (inl known) = inl (known.0, ap (λ (v : SheetView). v.history) ((stays r made known.0).same))
      by (inr news) = inr (made.delta, news, made.appended news.some)

  pub merge_made : (res : Result Report Refusal) → IfOk res (λ r. Makes x y (Merge d) r)
      → OnOk res (Merges d x.history y.history)
  merge_made (Ok r) made = made_merge r made
  merge_made (Err e) made = tt

  pub merge_joined : (res : Result Report Refusal) → IfOk res (λ r. Makes x y (Merge d) r)
      → OnOk res (joined_history y.history ≡ joined_state (joined_history x.history) (state_of d))
  merge_joined (Ok r) made = merge_joins d x.history y.history (made_merge r made)
  merge_joined (Err e) made = tt

  pub merge_below : (m n : ℕ) (res : Result Report Refusal) → IfOk res (λ r. Makes x y (Merge d) r)
      → IfOk res (λ r. n ≡ m + r.evaluated) → IfErr res (λ e. (e ≡ Memory) ⊎ ⊥)
      → IfErr res (λ e. e ≡ Memory → ¬ IsBelow (state_of d) (joined_history x.history))
      → IsBelow (state_of d) (joined_history x.history) → IsOk res × (y ≡ x) × (n ≡ m)
  merge_below m n (Ok r) made metered refused asked below =
      let idle = stays r made below in
      (refl, idle.same, (let none = idle.evaluated in omega (arith, metered, none)))
  merge_below m n (Err e) made metered refused asked below =
      absurd (⊎_elim (λ memory. asked memory below) (λ never. absurd never) refused)

  pub merge_idle : (res : Result Report Refusal) → IfOk res (λ r. Makes x y (Merge d) r)
      → IsBelow (state_of d) (joined_history x.history)
      → IfOk res (λ r. (r.evaluated ≡ 0) × (r.cyclic ≡ 0) × (r.levels ≡ 0))
  merge_idle (Ok r) made below =
      let idle = stays r made below in (idle.evaluated, idle.cyclic, idle.levels)
  merge_idle (Err e) made below = tt

  -- the version stays exactly if the delta is below the state
  pub merge_known : (res : Result Report Refusal) → IfOk res (λ r. Makes x y (Merge d) r)
      → IfOk res (λ r. r.version ≡ length y.history)
      → IfOk res (λ r. (r.version ≡ length x.history) ↔ IsBelow (state_of d) (joined_history x.history))
  merge_known (Ok r) made version = (
    λ same. by same (made_merge r made),
    λ below. version ∙ ap (λ (v : SheetView). length v.history) ((stays r made below).same),
  )
    where
      by : r.version ≡ length x.history → Merges d x.history y.history
          → IsBelow (state_of d) (joined_history x.history)
      by same (inl known) = known.0
      by same (inr new) =
          absurd (omega (
            arith,
            same,
            version,
            ap (λ (h : List Entries). length h) new.2,
            length-append x.history (new.0 ∷ []),
          ))
  merge_known (Err e) made version = tt
