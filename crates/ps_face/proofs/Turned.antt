-- Patches wait and are shown.
use Rattle.std.proofs.Common.{◌≡◌, ◌<◌, List, [], ◌∷◌, ◌++◌, All, fold, sym, ap, ◌∙◌, subst, arith}
use Rattle.std.proofs.lemmas.List.Elements.{All-nil}
use Rattle.std.proofs.lemmas.List.Sums.{fold-append}
use mathlib.Core.List.{IsPrefix}
use Rattle.logbook.specs.Pages.{Book}
use Rattle.ps_delta.specs.Deltas.{AreInGrid, Entries}
use Rattle.ps_face.specs.declared.patch.Note.{Note}
use Rattle.ps_face.specs.Legal.{Follows, history_of}
use Rattle.ps_face.specs.declared.waiting.TheConstants.{MOST_WAITING}
use Rattle.ps_face.specs.Seen.{Copy, CopyStands, Told, Turn, turned}
use Rattle.ps_face.specs.Published.{Gathered, MayShow, WriterStands}
use Rattle.ps_face.proofs.Beginnings.{begins_itself, begins_trans}
use Rattle.ps_face.proofs.Followed.{stands_next}

-- a copy that takes in the turn of the patch that comes next may be shown
pub may_show : (h : List Entries) (b : Book) (x : Copy) (t : Turn) (front : List Note) (p : Note)
    → CopyStands h b x → x.list ≡ front → t.book ≡ b → t.list ≡ front ++ p ∷ []
    → t.version ≡ p.number → t.changes ≡ p.changes → AreInGrid p.delta → Follows (history_of h front) p
    → MayShow h b x (t ∷ [])
may_show h b x t front p s same book list version changes inside f =
    let longer : t.list ≡ x.list ++ p ∷ [] = list ∙ ap (λ l. l ++ p ∷ []) (sym same) in
    let next : Follows (history_of h x.list) p = subst (λ l. Follows (history_of h l) p) (sym same) f in
    record {
      later = (p ∷ [], sym longer);
      stands = stands_next h b x t p s book longer version changes inside next;
    }

-- a copy that has taken in one turn after all that wait
pub turned_last : (x : Copy) (turns : List Turn) (t : Turn)
    → fold turned x (turns ++ t ∷ []) ≡ turned (fold turned x turns) t
turned_last x turns t = fold-append turned x turns (t ∷ [])

module _ (h : List Entries) (b : Book) (x : Copy) where
  -- if a copy may be shown with all that waits and then one turn more, it may be shown with one turn that does the same
  pub may_more : (turns more : List Turn) (t : Turn) → MayShow h b x turns → MayShow h b (fold turned x turns) (t ∷ [])
      → fold turned x more ≡ turned (fold turned x turns) t → MayShow h b x more
  may_more turns more t first next same =
      let whole : Copy = fold turned x turns in record {
        later = subst (λ (y : Copy). IsPrefix x.list y.list) (sym same)
            (begins_trans x.list whole.list t.list first.later next.later);
        stands = subst (CopyStands h b) (sym same) next.stands;
      }

  -- as all of these
  pub one_more : (turns : List Turn) (t : Turn) → MayShow h b x turns → MayShow h b (fold turned x turns) (t ∷ [])
      → MayShow h b x (turns ++ t ∷ [])
  one_more turns t first next = may_more turns (turns ++ t ∷ []) t first next (turned_last x turns t)

  -- if nothing waits, a copy that stands may be shown
  pub none_waits : (turns : List Turn) → CopyStands h b x → turns ≡ [] → MayShow h b x turns
  none_waits turns stands none =
      subst (MayShow h b x) (sym none) (record { later = begins_itself x.list; stands = stands })

  -- the writer stands after one more patch waits, if nothing is pending
  pub stands_waiting : (told new : Told) (word : Book) (turns : List Turn) (waiting more : Gathered)
      (appended : List Note) (t : Turn) → WriterStands h b x told word turns waiting appended
      → MayShow h b (fold turned x waiting.turns) (t ∷ [])
      → fold turned x more.turns ≡ turned (fold turned x waiting.turns) t → t.list ≡ new.list → new.book ≡ told.book
      → more.patches < MOST_WAITING → appended ≡ [] → WriterStands h b x new word turns more appended
  stands_waiting told new word turns waiting more appended t w next both list book few none = record {
    stands = w.stands;
    none = w.none;
    waits = may_more waiting.turns more.turns t w.waits next both;
    same = ap (λ (y : Copy). y.list) both ∙ list;
    few = few;
    book = book ∙ w.book;
    head = w.head;
    follows = subst (All (Follows (history_of h new.list))) (sym none) (All-nil (Follows (history_of h new.list)));
  }

  -- the writer stands after all patches are shown, if nothing is pending
  pub stands_shown : (told : Told) (word : Book) (turns : List Turn) (waiting : Gathered) (appended : List Note)
      → CopyStands h b x → x.list ≡ told.list → turns ≡ [] → waiting ≡ record { patches = 0; turns = [] }
      → told.book ≡ b → word ≡ b → appended ≡ [] → WriterStands h b x told word turns waiting appended
  stands_shown told word turns waiting appended stands list queue shown book head none =
      let idle : waiting.turns ≡ [] = ap (λ (g : Gathered). g.turns) shown in
      let count : waiting.patches ≡ 0 = ap (λ (g : Gathered). g.patches) shown in record {
        stands = stands;
        none = queue;
        waits = none_waits waiting.turns stands idle;
        same = ap (λ (ts : List Turn). (fold turned x ts).list) idle ∙ list;
        few = omega (arith, count);
        book = book;
        head = head;
        follows = subst (All (Follows (history_of h told.list))) (sym none)
            (All-nil (Follows (history_of h told.list)));
      }
