-- Which bytes at a server's port begin with a request of HTTP (RFC 9112), and so aren't a session's.
use Rattle.std.specs.Prelude.{◌≡◌, ◌==◌, ◌&&◌, ◌||◌, ℕ, Bool, true, false, not, List, [], ◌∷◌, ◌++◌, Option, Some}
use Rattle.std.specs.Prelude.{None, codes}
use Rattle.std.specs.Prelude.{nat_eq, nat_le}
use Rattle.std.specs.List.{starts_with}
use Rattle.ps_lines.specs.Feeding.{HasNoFeed}
use Rattle.ps_lines.specs.Words.{after_word}

-- the first byte is a small letter
abbrev pub begins_small : List ℕ → Bool
begins_small [] = false
begins_small (b ∷ bs) = nat_le 97 b && nat_le b 122

-- the first byte can't begin a request's target: it is neither `/` nor `*`
abbrev pub begins_no_target : List ℕ → Bool
begins_no_target [] = false
begins_no_target (b ∷ bs) = not (b == 47 || b == 42)

-- the beginning of a session's command with an argument, whatever follows: it begins with a small letter, and what
-- comes after its first word can't be a request's target
abbrev pub begins_command : List ℕ → Bool
begins_command bytes = begins_small bytes && begins_no_target (after_word bytes)

-- a request line: a method, a target, and the protocol's name with its version. It doesn't begin as a command does. A
-- page can send a method in small letters, too, to a server that it takes for its own
abbrev pub is_request_line : List ℕ → Bool
is_request_line line = not (begins_command line) && starts_with nat_eq (after_word (after_word line)) (codes "HTTP/")

-- the first line is a request line
abbrev pub IsRequest : List ℕ → Type 0
IsRequest bytes = (line : List ℕ) × (more : List ℕ) × HasNoFeed line × (is_request_line line ≡ true)
    × (bytes ≡ line ++ 10 ∷ more)

-- .. of the bytes that a reader is still to return, if contracts see these
abbrev pub BeginsRequest : Option (List ℕ) → Type 0
BeginsRequest None = ⊥
BeginsRequest (Some bytes) = IsRequest bytes
