-- A response that is written piece after piece, and then flushed.
use Rattle.std.proofs.Common.{◌≡◌, ◌∙◌, sym, subst, ℕ, List, ◌++◌, Option, None, Some, Result, Ok, Err}
use Rattle.std.specs.Io.KnownBytes.{Appends, Keeps}
use Rattle.std.specs.Prelude.{OnOk}
use Rattle.tungstenite.proofs.SocketLemmas.{appends-chain}

appends_kept : (x y z : Option (List ℕ)) (a : List ℕ) → Appends x y a → Keeps y z → Appends x z a
appends_kept None y z a h k = tt
appends_kept (Some xs) None z a h k = absurd h
appends_kept (Some xs) (Some ys) None a h k = absurd k
appends_kept (Some xs) (Some ys) (Some zs) a h k = k ∙ h

pub four_pieces : (u v w x y z : Option (List ℕ)) (a b c d : List ℕ) → Appends u v a → Appends v w b → Appends w x c
    → Appends x y d → Keeps y z → Appends u z (a ++ b ++ c ++ d)
four_pieces u v w x y z a b c d first second third fourth kept =
    appends-chain u x z (a ++ b ++ c) d (appends-chain u w x (a ++ b) c (appends-chain u v w a b first second) third)
    (appends_kept x y z d fourth kept)

pub on_ok : {A E P : Type 0} (r : Result A E) → P → OnOk r P
on_ok (Ok a) p = p
on_ok (Err e) p = tt
