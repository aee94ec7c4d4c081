use Rattle.std.proofs.Common.{◌≡◌, ◌++◌, ◌-◌, drop, ap, ◌∙◌, take, length}
use Rattle.std.proofs.lemmas.List.{take_rest}
use Rattle.ps_lattice.proofs.Merging.{merged, entries-joined, ended_left, ended_right}
use Rattle.ps_lattice.proofs.entries.merge_by_steps.Goals as goal
use Rattle.ps_lattice.proofs.entries.merge_by_steps.Goals.{then-loop-i-test+else-j-theirs, else-loop-i-test}

-- one list has ended, and the rest of the other follows
pub returns-clause-ok : goal.returns-clause-ok
returns-clause-ok g c =
    let R = g.K.Ord.cmp in
    let f = g.X.Join.joined in
    let all = c.loop-i.all.items in
    let mine = c.args.mine.now in
    let theirs = c.args.theirs.now in
    let total = merged R f mine theirs in
    let i = c.loop-i.i in
    let j = c.loop-i.j in
    let joined : (all ++ drop i mine) ++ drop j theirs ≡ total =
    elim c.loop-i-test.branch [
      | then-loop-i-test+else-j-theirs w ↦
          ended_right R f all mine theirs total i j w.if-j-theirs.false c.loop-i.invariant.so_far
      | else-loop-i-test w ↦ ended_left R f all mine theirs total i j w.loop-i-test.false c.loop-i.invariant.so_far
    ] in
    c.in_ok-append-2.ensures.ok
    ∙ ap (λ l. l ++ take (length theirs - j) (drop j theirs)) c.in_ok-append.ensures.ok
    ∙ (λ k. (all ++ take_rest mine i k) ++ take_rest theirs j k)
    ∙ joined ∙ entries-joined R f g.met.K.Ord.total g.met.K.Linear.no_ties mine theirs c.requires.mine c.requires.theirs
