use Rattle.std.proofs.Common.{◌≡◌, ◌+◌, ◌∷◌, ◌++◌, drop, sym, ap, ◌∙◌, arith}
use Rattle.std.proofs.lemmas.List.{take_rest, drop_more, drop_all}
use Rattle.ps_lattice.proofs.Merging.{merged, merged-nil, entries-joined}
use Rattle.ps_lattice.proofs.Places.{few_there, few_alone}
use Rattle.ps_lattice.proofs.entries.merge_few.Goals as goal
use Rattle.ps_lattice.proofs.entries.merge_few.Goals.{
  then-is_there+in_ok-both+in_ok-push,
  else-is_there+in_ok-twin_of+in_ok-push-2,
}

-- one more entry of the short list, after those of the long one that are below it
pub loop-entry-preserved : goal.loop-entry-preserved
loop-entry-preserved g c =
    let R = g.K.Ord.cmp in
    let f = g.X.Join.joined in
    let all = c.loop-entry.all.items in
    let many = c.args.many.now in
    let few = c.args.few.now in
    let i = c.loop-entry.i in
    let k = c.loop-entry.entry-index in
    let y = c.entry-item.result in
    let place = c.place_of-place.ensures in
    let at = c.place_of-place.result.0 in
    let next : drop k few ≡ y ∷ drop (k + 1) few =
    drop_more few k y c.loop-entry-test.true ∙ ap (λ e. e ∷ drop (k + 1) few) (sym c.entry-item.is) in
    let so_far : all ++ merged R f (drop i many) (y ∷ drop (k + 1) few) ≡ merged R f many few =
    ap (λ l. all ++ merged R f (drop i many) l) (sym next) ∙ c.loop-entry.invariant.so_far in
    elim c.if-is_there.branch [
      | then-is_there+in_ok-both+in_ok-push w ↦
          let within = c.place_of-place.ensures.within w.if-is_there.true in
          rw (w.all-is, w.i-is, w.in_ok-push.ensures.items, c.in_ok-append.ensures.ok, w.in_ok-both.ensures.ok) record {
            in_many = omega (arith, within);
            so_far =
                few_there R f all (merged R f many few) many (drop (k + 1) few) y i at c.place_of-place.result.1 place
                so_far g.met.K.Linear.no_ties w.index-many-i.result w.if-is_there.true;
          }
      | else-is_there+in_ok-twin_of+in_ok-push-2 w ↦
          let high = c.place_of-place.ensures.high in
          rw (w.all-is, w.i-is, w.in_ok-push-2.ensures.items, c.in_ok-append.ensures.ok, w.in_ok-twin_of.ensures.ok)
          record {
            in_many = omega (arith, high);
            so_far =
                few_alone R f all (merged R f many few) many (drop (k + 1) few) y i at c.place_of-place.result.1 place
                so_far w.if-is_there.false;
          }
    ]

pub bounds-many-i : goal.bounds-many-i
bounds-many-i g c = c.place_of-place.ensures.within c.if-is_there.true

-- the rest of the long list follows
pub returns-clause-ok : goal.returns-clause-ok
returns-clause-ok g c =
    let R = g.K.Ord.cmp in
    let f = g.X.Join.joined in
    let all = c.loop-entry.all.items in
    let many = c.args.many.now in
    let few = c.args.few.now in
    let i = c.loop-entry.i in
    let gone = drop_all c.loop-entry.entry-index few (omega arith) in
    c.in_ok-append-2.ensures.ok
    ∙ ap (λ l. all ++ l) (take_rest many i ∙ sym (ap (merged R f (drop i many)) gone ∙ merged-nil R f (drop i many)))
    ∙ c.loop-entry.invariant.so_far
    ∙ entries-joined R f g.met.K.Ord.total g.met.K.Linear.no_ties many few c.requires.many c.requires.few
