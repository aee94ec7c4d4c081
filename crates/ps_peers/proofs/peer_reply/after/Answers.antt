use Rattle.std.proofs.Common.{List, ℕ, Option, Some, None, Bor}
use Rattle.std.specs.Prelude.{IfSome, MatchOption}
use Rattle.std.proofs.lemmas.Bool.Decides.{Decides-eqb}
use Rattle.std.proofs.lemmas.Slice.Eq.{strip_prefix_is}
use Rattle.ps_peers.proofs.peer_reply.after.Goals as goal

pub returns : goal.returns
returns c =
    some _ _ c.strip_prefix.result (strip_prefix_is Decides-eqb c.args.line.now c.args.word.now c.strip_prefix.result
    c.strip_prefix.ensures.cases)
  where
    some : (P : Type 0) (Q : Bor (List ℕ) → Type 0) (r : Option (Bor (List ℕ))) → MatchOption r P Q → IfSome r Q
    some P Q None given = tt
    some P Q (Some rest) given = given
