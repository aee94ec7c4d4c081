-- What passes between a browser's WebSocket and a session.
use Rattle.std.specs.Prelude.{◌≡◌, ◌==◌, ◌&&◌, ⊤, ℕ, Bool, true, not, nat_lt, length, List, [], ◌∷◌, ◌++◌, Option, Ok}
use Rattle.std.specs.Prelude.{codes, decimal}
use Rattle.std.specs.List.{list_all}
use Rattle.websocket.specs.Content.{text}
use Rattle.tungstenite.specs.Socket.{Socket, Reads, content_of}
use Rattle.tungstenite.specs.declared.message.Message.{Message}
use Rattle.ps_page.specs.Heads.{AnswersReader}
use Rattle.ps_page.specs.declared.greeting.Greeted.{Greeted}
use Rattle.ps_page.specs.declared.greeting.Greeted.TheVariants.{Answered, Live, News}
use Rattle.ps_page.specs.declared.head.Answer.{Answer}
use Rattle.ps_page.specs.declared.response.TheConstants.{ABOUT_HEAD}
use Rattle.ps_page.specs.declared.socket.Heard.{Heard}
use Rattle.ps_page.specs.declared.socket.Heard.TheVariants.{Idle, Left, Line, NoLine}

-- b'\n' and b'\r'
abbrev pub line_feed : ℕ
line_feed = 10

abbrev pub carriage_return : ℕ
carriage_return = 13

-- a line with the line feed that ends it
abbrev pub ended : List ℕ → List ℕ
ended line = line ++ line_feed ∷ []

-- the message is one line: it isn't empty, and has no byte that ends a line
abbrev pub is_line : List ℕ → Bool
is_line line = nat_lt 0 (length line) && list_all (λ b. not (b == line_feed) && not (b == carriage_return)) line

-- a message that a session ignores
abbrev pub IsIdle : Message → Type 0
IsIdle (Message.Text s) = ⊥
IsIdle (Message.Binary s) = ⊥
IsIdle (Message.Ping s) = ⊤
IsIdle (Message.Pong s) = ⊤
IsIdle (Message.Close frame) = ⊤

-- HEARD: `Line` says that the socket read one message, which was one line, and that `bytes` has it with a line feed.
-- `Idle` says that the socket read a message that a session ignores
abbrev pub Hears : {S : Type 0} → (S → Option (List ℕ)) → Socket S → Socket S → List ℕ → Heard → Type 0
Hears remaining old new bytes Line =
    (message : Message) × (line : List ℕ) × Reads remaining old new (Ok message) × (content_of message ≡ text line)
    × (is_line line ≡ true) × (bytes ≡ ended line)
Hears remaining old new bytes Idle = (message : Message) × Reads remaining old new (Ok message) × IsIdle message
Hears remaining old new bytes NoLine = ⊤
Hears remaining old new bytes Left = ⊤

-- GREETED: a WebSocket is opened only for a head that asks for it from this server's own page
abbrev pub Greets : Option (List ℕ) → Option (List ℕ) → Greeted → Type 0
Greets old new Live = (key : _) × AnswersReader old new (Answer.Live key)
Greets old new News = (key : _) × AnswersReader old new (Answer.News key)
Greets old new Answered = ⊤

-- the message that reports how many changes there are
abbrev pub version_text : ℕ → List ℕ
version_text version = codes "version " ++ decimal version

-- the facts about a sheet, a line each: how many browsers have a session, and its title
abbrev pub about_lines : ℕ → List ℕ → List ℕ
about_lines here title = decimal here ++ line_feed ∷ title ++ line_feed ∷ []

-- the response to `/about` with these lines as its body
abbrev pub about_text : List ℕ → List ℕ
about_text lines = ABOUT_HEAD.now ++ decimal (length lines) ++ codes "\r\n\r\n" ++ lines
