use Rattle.std.proofs.Common.{rules, ◌≡◌, ◌∙◌, ◌-◌, ℕ, List, ap, false, length, subst, true}
use Rattle.ps_keep.specs.Lines.{whole_lines}
use Rattle.ps_shorten.specs.Shortened.{IsShortened, TellsTheSame, is_worth}
use Rattle.ps_shorten.specs.declared.fault.ShortenFault.TheVariants.{Device}
use Rattle.ps_shorten.proofs.ShortenLemmas.{either_way, is_left, is_replaced, tells_the_same}
use Rattle.ps_shorten.proofs.in_place.shorten.Goals as goal

pub returns-then-not-is_worth-clause-shortened : goal.returns-then-not-is_worth-clause-shortened
returns-then-not-is_worth-clause-shortened g c =
    let old = c.bytes-bytes.result.now in
    let made = c.in-Ok.made.1.items in
    let read = c.in-Ok.ensures.read in
    let worth = c.args.asked.worth in
    let worthless : is_worth worth (length old) (length made) ≡ false = search rules in
    subst (λ (bs : List ℕ). IsShortened worth c.args.asked.replica bs bs (record {
      before = c.in-Ok.made.0;
      after = c.in-Ok.made.0;
    })) c.bytes-bytes.ensures
    (is_left worth c.args.asked.replica old made read.0 _ read.1 c.in-Ok.ensures.squashed worthless read.2 read.2)

pub returns-in-Ok-replace-clause-shortened : goal.returns-in-Ok-replace-clause-shortened
returns-in-Ok-replace-clause-shortened g c =
    let old = c.bytes-bytes.result.now in
    let made = c.in-Ok.made.1.items in
    let read = c.in-Ok.ensures.read in
    let worth = c.args.asked.worth in
    let range = c.args.asked.replica_in_range in
    let worthy : is_worth worth (length old) (length made) ≡ true = search rules in
    let same = tells_the_same c.args.asked.replica old made read.0 range.0 range.1
    c.squashed_files_read_the_same.ensures (c.reading_twice.ensures old) c.in-Ok.ensures.no_return read.1
    c.in-Ok.ensures.squashed in
    let after = c.count_changes-after.ensures
    ∙ ap (λ (bs : List ℕ). length (whole_lines bs) - 1) c.deref.ensures.value in
    subst (λ (bs : List ℕ). IsShortened worth c.args.asked.replica bs (g.P.Replace.content c.replace.new.self) (record {
      before = c.in-Ok.made.0;
      after = c.count_changes-after.result;
    })) c.bytes-bytes.ensures
    (is_replaced worth c.args.asked.replica old (g.P.Replace.content c.replace.new.self) made _ same
    c.in-Ok.ensures.squashed worthy c.in-Ok-replace.ensures.replaced read.2 after)

pub returns-in-Err-replace-clause-same : goal.returns-in-Err-replace-clause-same
returns-in-Err-replace-clause-same g c =
    let old = c.bytes-bytes.result.now in
    let made = c.in-Ok.made.1.items in
    let read = c.in-Ok.ensures.read in
    let range = c.args.asked.replica_in_range in
    let same = tells_the_same c.args.asked.replica old made read.0 range.0 range.1
    c.squashed_files_read_the_same.ensures (c.reading_twice.ensures old) c.in-Ok.ensures.no_return read.1
    c.in-Ok.ensures.squashed in
    either_way Device c.args.asked.replica _ _ made
    (subst (λ (bs : List ℕ). TellsTheSame c.args.asked.replica bs made) c.bytes-bytes.ensures same)
    c.in-Err-replace.ensures.whole
