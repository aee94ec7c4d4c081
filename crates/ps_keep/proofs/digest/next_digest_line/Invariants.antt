use Rattle.std.proofs.Common.{◌≡◌, ◌∷◌, ◌++◌, [], ◌+◌, ◌*◌, take, drop, length}
use Rattle.ps_keep.specs.Digests.{digest_word, hex}
use Rattle.ps_keep.proofs.digest.next_digest_line.Given as goal

-- the digits of the first bytes stand behind the word
abbrev pub invariant-bytes : goal.invariant-bytes
invariant-bytes l = record {
  so_far : take (8 + 2 * l.i) l.line ≡ digest_word ++ hex (take l.i l.digest);
  last : drop 24 l.line ≡ 10 ∷ [];
  size : length l.line ≡ 25;
}
