-- The lines of deltas, noted one after another.
use Rattle.std.proofs.Common.{◌≡◌, ◌+◌, ◌<◌, ℕ, suc, List, [], ◌∷◌, ◌++◌, length, map, refl, sym, ap, ◌∙◌, take}
use Rattle.std.proofs.Common.{append_assoc, arith, subst, get_or}
use Rattle.std.proofs.lemmas.List.{take_more}
use Rattle.ps_delta.specs.Deltas.{Entries}
use Rattle.ps_wire.specs.Line.{IsOneLine, delta_text}
use Rattle.ps_wire.proofs.NoFeedLemmas.{delta_line}
use Rattle.ps_lines.specs.PushLine.{push_line}
use Rattle.ps_keep.specs.Journals.{JournalView}
use Rattle.ps_keep.specs.Lines.{IsLine}
use Rattle.ps_kept.specs.Kept.{Notes, PushAll}

-- a line of a journal is what has no line feed
one_line : (bytes : List ℕ) → IsOneLine bytes → IsLine bytes
one_line [] all = tt
one_line (b ∷ bs) all = ((λ is. all 0 0 (omega arith) is), one_line bs (λ k d lt is. all (suc k) d (omega arith) is))

pub push_line-is_line : (d : Entries) → IsLine (push_line d)
push_line-is_line d =
    let text = one_line (delta_text d) (delta_line d) in
    ((λ e. cc), ((λ e. cc), ((λ e. cc), ((λ e. cc), ((λ e. cc), text)))))

pub PushAll-both : (a b : List (List ℕ)) (h k : List Entries) → PushAll a h → PushAll b k → PushAll (a ++ b) (h ++ k)
PushAll-both [] b [] k all more = more
PushAll-both [] b (d ∷ h) k all more = absurd all
PushAll-both (l ∷ a) b [] k all more = absurd all
PushAll-both (l ∷ a) b (d ∷ h) k all more = (all.0, PushAll-both a b h k all.1 more)

map-both : (ds es : List Entries) → map push_line (ds ++ es) ≡ map push_line ds ++ map push_line es
map-both [] es = refl
map-both (d ∷ ds) es = ap (λ ls. push_line d ∷ ls) (map-both ds es)

pub more_noted : (j k l : JournalView) (ds es : List Entries) → Notes j ds k → Notes k es l → Notes j (ds ++ es) l
more_noted j k l ds es first second = record {
  lines =
      second.lines ∙ (λ i. record (first.lines i) { lines = (first.lines i).lines ++ map push_line es })
      ∙ ap (λ (ls : List (List ℕ)). record j { lines = ls })
      (append_assoc j.lines (map push_line ds) (map push_line es) ∙ ap (λ ls. j.lines ++ ls) (sym (map-both ds es)));
  each = subst (λ ls. PushAll ls (ds ++ es)) (sym (map-both ds es)) (PushAll-both _ _ ds es first.each second.each);
  journal = λ is. second.journal (first.journal is);
}

-- once the delta after the first so many is noted too
pub next_noted : (j k l : JournalView) (h : List Entries) (n : ℕ) (d : Entries) → n < length h → d ≡ get_or h n d
    → Notes j (take n h) k → Notes k (d ∷ []) l → Notes j (take (n + 1) h) l
next_noted j k l h n d within is first second =
    subst (λ ds. Notes j ds l) (ap (λ x. take n h ++ x ∷ []) is ∙ sym (take_more h n d within))
    (more_noted j k l _ _ first second)
