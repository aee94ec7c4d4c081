-- The changes that wait to be shown are of one session slot.
use Rattle.std.proofs.Common.{◌≡◌, ◌⊎◌, inl, inr, ℕ, List, [], ◌∷◌, ◌++◌, All, Option, Some, None, append_assoc}
use Rattle.std.proofs.Common.{refl, sym, ap, subst, ◌∙◌}
use Rattle.std.proofs.lemmas.List.{append-nil}
use Rattle.std.proofs.lemmas.List.Elements.{All-nil, All-push}
use Rattle.ps_face.specs.declared.patch.Note.{Note}
use Rattle.ps_face.specs.Published.{Published}
use Rattle.ps_desk.specs.UnderLock.{AreMadeBy, Waits}
use Rattle.ps_desk.specs.declared.showing.Showing.{Showing}
use Rattle.ps_desk.specs.declared.showing.Showing.TheVariants.{AtOnce}

none_made : (slot : Option ℕ) → AreMadeBy slot []
none_made (Some seat) = All-nil (λ (p : Note). p.owner ≡ seat)
none_made None = refl

-- where all is shown, nothing waits
pub nothing_waits : (slot : Option ℕ) (copies : Published) → copies.shown ≡ copies.list → Waits slot copies
nothing_waits slot copies all = record {
  waiting = [];
  is = sym all ∙ sym (append-nil copies.shown);
  made = none_made slot;
}

same_waits : (slot : Option ℕ) (old new : Published) → new.list ≡ old.list → new.shown ≡ old.shown → Waits slot old
    → Waits slot new
same_waits slot old new list shown w = record {
  waiting = w.waiting;
  is = list ∙ w.is ∙ ap (λ (l : List Note). l ++ w.waiting) (sym shown);
  made = w.made;
}

-- .. or as much as before
pub still_waits : (slot : Option ℕ) (old new : Published) → new.list ≡ old.list
    → (new.shown ≡ old.shown) ⊎ (new.shown ≡ new.list) → Waits slot old → Waits slot new
still_waits slot old new list (inl shown) w = same_waits slot old new list shown w
still_waits slot old new list (inr all) w = nothing_waits slot new all

one_more : (seat : ℕ) (old new : Published) (patch : Note) → new.list ≡ old.list ++ patch ∷ [] → patch.owner ≡ seat
    → new.shown ≡ old.shown → Waits (Some seat) old → Waits (Some seat) new
one_more seat old new patch list owner shown w = record {
  waiting = w.waiting ++ patch ∷ [];
  is = list ∙ ap (λ (l : List Note). l ++ patch ∷ []) w.is ∙ append_assoc old.shown w.waiting (patch ∷ [])
      ∙ ap (λ (l : List Note). l ++ (w.waiting ++ patch ∷ [])) (sym shown);
  made = All-push (λ (p : Note). p.owner ≡ seat) w.waiting patch w.made owner;
}

-- one more change of the slot may wait, or all are shown
pub more_waits : (seat : ℕ) (old new : Published) (patch : Note) → new.list ≡ old.list ++ patch ∷ []
    → patch.owner ≡ seat → (new.shown ≡ old.shown) ⊎ (new.shown ≡ new.list) → Waits (Some seat) old
    → Waits (Some seat) new
more_waits seat old new patch list owner (inl shown) w = one_more seat old new patch list owner shown w
more_waits seat old new patch list owner (inr all) w = nothing_waits (Some seat) new all

-- where nothing waits, the changes of any slot may
any_slot : (slot : Option ℕ) (seat : ℕ) (copies : Published) → (slot ≡ None) ⊎ (slot ≡ Some seat) → Waits slot copies
    → Waits (Some seat) copies
any_slot slot seat copies (inl none) w =
    let w = subst (λ (s : Option ℕ). Waits s copies) none w in
    record { waiting = w.waiting; is = w.is; made = subst (AreMadeBy (Some seat)) (sym w.made) (none_made (Some seat)) }
any_slot slot seat copies (inr some) w = subst (λ (s : Option ℕ). Waits s copies) some w

-- a change of this slot begins: what waits is shown first, or is of this slot
begin_waits : (slot : Option ℕ) (seat : ℕ) (showing : Showing) (old new : Published) → new.list ≡ old.list
    → (showing ≡ AtOnce → new.shown ≡ new.list) → (new.shown ≡ old.shown) ⊎ (new.shown ≡ new.list)
    → (showing ≡ AtOnce) ⊎ ((slot ≡ None) ⊎ (slot ≡ Some seat)) → Waits slot old → Waits (Some seat) new
begin_waits slot seat showing old new list all steady (inl once) w = nothing_waits (Some seat) new (all once)
begin_waits slot seat showing old new list all steady (inr may) w =
    still_waits (Some seat) old new list steady (any_slot slot seat old may w)

-- .. and as it was shown, so its slot is remembered
end_waits : (slot : Option ℕ) (seat : ℕ) (showing : Showing) (copies : Published)
    → ((slot ≡ None) × (showing ≡ AtOnce)) ⊎ (slot ≡ Some seat) → (showing ≡ AtOnce → copies.shown ≡ copies.list)
    → Waits (Some seat) copies → Waits slot copies
end_waits slot seat showing copies (inl none) all w = nothing_waits slot copies (all none.1)
end_waits slot seat showing copies (inr some) all w = subst (λ (s : Option ℕ). Waits s copies) (sym some) w

-- what waits after a change, where it is shown so
pub waits_after : (slot next : Option ℕ) (seat : ℕ) (showing : Showing) (old mid new : Published)
    → mid.list ≡ old.list → (showing ≡ AtOnce → mid.shown ≡ mid.list)
    → (mid.shown ≡ old.shown) ⊎ (mid.shown ≡ mid.list)
    → (showing ≡ AtOnce) ⊎ ((slot ≡ None) ⊎ (slot ≡ Some seat)) → Waits slot old
    → (Waits (Some seat) mid → Waits (Some seat) new)
    → ((next ≡ None) × (showing ≡ AtOnce)) ⊎ (next ≡ Some seat) → (showing ≡ AtOnce → new.shown ≡ new.list)
    → Waits next new
waits_after slot next seat showing old mid new list shown steady may w more is all =
    end_waits next seat showing new is all (more (begin_waits slot seat showing old mid list shown steady may w))
