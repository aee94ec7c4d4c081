-- Bytes are divided into lines in one way.
use Rattle.std.proofs.Common.{◌≡◌, ◌≢◌, ◌∙◌, refl, sym, ap, ap₂, subst, ℕ, List, [], ◌∷◌, ◌++◌, append_assoc}
use Rattle.std.proofs.Common.{flat_map, drop}
use Rattle.std.specs.List.{All}
use Rattle.std.proofs.lemmas.List.Elements.{All-head, All-tail}
use Rattle.ps_lines.specs.Feeding.{HasNoFeed}
use Rattle.ps_lines.specs.Streams.{DividesOneWay, stream_of}

fed : (bs cs : List ℕ) → HasNoFeed (bs ++ 10 ∷ cs) → ⊥
fed [] cs free = All-head (λ b. b ≢ 10) 10 cs free refl
fed (b ∷ bs) cs free = fed bs cs (All-tail (λ b. b ≢ 10) b (bs ++ 10 ∷ cs) free)

head : ℕ → List ℕ → ℕ
head b [] = b
head b (c ∷ cs) = c

head_is : (b c : ℕ) (bs cs : List ℕ) → b ∷ bs ≡ c ∷ cs → b ≡ c
unfolding head
head_is b c bs cs is = ap (head b) is

tail_is : (b c : ℕ) (bs cs : List ℕ) → b ∷ bs ≡ c ∷ cs → bs ≡ cs
tail_is b c bs cs is = ap (drop 1) is

-- two lines that begin the same bytes are one
first_line : (a b x y : List ℕ) → HasNoFeed a → HasNoFeed b → a ++ 10 ∷ x ≡ b ++ 10 ∷ y → (a ≡ b) × (x ≡ y)
first_line [] [] x y free other is = (refl, tail_is 10 10 x y is)
first_line [] (c ∷ b) x y free other is =
    absurd (All-head (λ d. d ≢ 10) c b other (sym (head_is 10 c x (b ++ 10 ∷ y) is)))
first_line (c ∷ a) [] x y free other is =
    absurd (All-head (λ d. d ≢ 10) c a free (head_is c 10 (a ++ 10 ∷ x) y is))
first_line (c ∷ a) (d ∷ b) x y free other is =
    let rest = first_line a b x y (All-tail (λ e. e ≢ 10) c a free) (All-tail (λ e. e ≢ 10) d b other)
    (tail_is c d (a ++ 10 ∷ x) (b ++ 10 ∷ y) is) in
    (ap₂ (λ e es. e ∷ es) (head_is c d (a ++ 10 ∷ x) (b ++ 10 ∷ y) is) rest.0, rest.1)

stream-cons : (line : List ℕ) (lines : List (List ℕ)) (rest : List ℕ)
    → stream_of (line ∷ lines) rest ≡ line ++ 10 ∷ stream_of lines rest
stream-cons line lines rest =
    append_assoc (line ++ 10 ∷ []) (flat_map (λ l. l ++ 10 ∷ []) lines) rest
    ∙ append_assoc line (10 ∷ []) (stream_of lines rest)

divided : (lines others : List (List ℕ)) (rest remainder : List ℕ) → All HasNoFeed lines → All HasNoFeed others
    → HasNoFeed rest → HasNoFeed remainder → stream_of lines rest ≡ stream_of others remainder
    → (lines ≡ others) × (rest ≡ remainder)
divided [] [] rest remainder each all free other is = (refl, is)
divided [] (o ∷ os) rest remainder each all free other is =
    absurd (fed o (stream_of os remainder) (subst HasNoFeed (is ∙ stream-cons o os remainder) free))
divided (l ∷ ls) [] rest remainder each all free other is =
    absurd (fed l (stream_of ls rest) (subst HasNoFeed (sym is ∙ stream-cons l ls rest) other))
divided (l ∷ ls) (o ∷ os) rest remainder each all free other is =
    let first = first_line l o (stream_of ls rest) (stream_of os remainder) (All-head HasNoFeed l ls each)
    (All-head HasNoFeed o os all) (sym (stream-cons l ls rest) ∙ is ∙ stream-cons o os remainder) in
    let others = divided ls os rest remainder (All-tail HasNoFeed l ls each) (All-tail HasNoFeed o os all) free other
    first.1 in
    (ap₂ (λ e es. e ∷ es) first.0 others.0, others.1)

pub divides_one_way : DividesOneWay
divides_one_way bytes lines others rest remainder a b =
    divided lines others rest remainder a.each b.each a.partial b.partial (sym a.whole ∙ b.whole)
