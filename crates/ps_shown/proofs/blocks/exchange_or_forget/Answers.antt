use Rattle.std.proofs.Common.{◌<◌, ◌+◌, ◌*◌, ◌/◌, length, Some, refl, arith}
use Rattle.ps_shown.specs.Blocks.{items_between}
use Rattle.ps_shown.specs.declared.blocks.TheConstants.{BLOCK}
use Rattle.ps_shown.proofs.BlockLemmas.{block_among, block_follows, few_between, known_there}
use Rattle.ps_shown.proofs.BlockLemmas.{remembered_known, remembered_new, remembered_not, remembered_past}
use Rattle.ps_shown.proofs.blocks.exchange_or_forget.Goals as goal

pub returns-then-block-len-clause-remembered : goal.returns-then-block-len-clause-remembered
returns-then-block-len-clause-remembered c = λ put is.
    remembered_past c.args.kept.now c.args.sums.now.items c.args.place put c.requires.remembered
    (omega (arith, c.if-block-len.true, c.len.ensures, c.args.sums.now.ok.0))

pub exchange-requires-clause-among : goal.exchange-requires-clause-among
exchange-requires-clause-among c =
    let within : c.args.place / BLOCK < length c.args.sums.now.items =
    omega (arith, c.if-block-len.false, c.len.ensures, c.args.sums.now.ok.0) in
    let known = known_there c.args.kept.now c.args.sums.now.items (c.args.place / BLOCK) c.index_mut.result.now
    c.in-Some.known c.requires.remembered within c.index_mut.ensures.value c.in-Some.is in
    let kept = c.args.kept.now in
    let place = c.args.place in (
      items_between kept (place / BLOCK * BLOCK) place,
      items_between kept (place + 1) (place / BLOCK * BLOCK + BLOCK),
      block_among kept place c.index-kept-place.result c.operand.result c.in-Some.known c.requires.reached
          c.index-kept-place.is c.operand.ensures known,
    )

pub exchange-requires-clause-room : goal.exchange-requires-clause-room
exchange-requires-clause-room c =
    let within : c.args.place / BLOCK < length c.args.sums.now.items =
    omega (arith, c.if-block-len.false, c.len.ensures, c.args.sums.now.ok.0) in
    let known = known_there c.args.kept.now c.args.sums.now.items (c.args.place / BLOCK) c.index_mut.result.now
    c.in-Some.known c.requires.remembered within c.index_mut.ensures.value c.in-Some.is in
    let b = c.args.place / BLOCK in
    omega (arith, known.counted, few_between c.args.kept.now (b * BLOCK) (b * BLOCK + BLOCK))

pub returns-then-not-exchange-clause-remembered : goal.returns-then-not-exchange-clause-remembered
returns-then-not-exchange-clause-remembered c = λ put is.
    remembered_not c.args.kept.now c.args.sums.now.items c.args.place put (Some c.exchange.new.self)
    c.requires.remembered (omega (arith, c.if-block-len.false, c.len.ensures, c.args.sums.now.ok.0))

pub returns-else-not-exchange-clause-remembered : goal.returns-else-not-exchange-clause-remembered
returns-else-not-exchange-clause-remembered c = λ put is.
    let within : c.args.place / BLOCK < length c.args.sums.now.items =
    omega (arith, c.if-block-len.false, c.len.ensures, c.args.sums.now.ok.0) in
    let known = known_there c.args.kept.now c.args.sums.now.items (c.args.place / BLOCK) c.index_mut.result.now
    c.in-Some.known c.requires.remembered within c.index_mut.ensures.value c.in-Some.is in
    let kept = c.args.kept.now in
    let place = c.args.place in
    let front = items_between kept (place / BLOCK * BLOCK) place in
    let back = items_between kept (place + 1) (place / BLOCK * BLOCK + BLOCK) in
    let among = block_among kept place c.index-kept-place.result c.operand.result c.in-Some.known c.requires.reached
    c.index-kept-place.is c.operand.ensures known in
    remembered_known kept c.args.sums.now.items place put c.exchange.new.self c.requires.remembered within
    (block_follows kept place put c.args.operand c.exchange.new.self c.requires.reached is
    (c.if-not-exchange.ensures.items refl front back among))

pub returns-in_default-clause-remembered : goal.returns-in_default-clause-remembered
returns-in_default-clause-remembered c = λ put is.
    remembered_new c.args.kept.now c.args.sums.now.items c.args.place put c.index_mut.result.now
    c.requires.remembered (omega (arith, c.if-block-len.false, c.len.ensures, c.args.sums.now.ok.0))
    (λ s some. absurd (c.in_default.not-Some s some))
