-- A page record (document 02, Job 9): laid out from its parts, and read back command by command. What stands in quotes is the paper's; 'command bytes are
-- hexadecimal'.
-- Assumes nothing.
use Rattle.std.specs.Prelude.{◌≡◌, ℕ, zero, suc, ◌+◌, ◌*◌, ◌/◌, ◌%◌, ◌^◌, ◌≤◌, ◌<◌, Bool, ◌&&◌, List, [], ◌∷◌, ◌++◌, eqb, ltb, length, get_or, take, drop}
use Rattle.forms.specs.Lists.{tabulate, when}
use Rattle.forms.specs.Words.{byte, join}
use Rattle.forms.specs.Strings.{same}

-- the parts of a page record. The sealed blocks, of 16 bytes each, stand one after another in `sealed`, without the command bytes between them
pub record Page : Type 0 where
  pub number : ℕ
  pub day : ℕ
  pub title : List ℕ
  pub start : List ℕ
  pub sealed : List ℕ
  pub tag : List ℕ

-- what they are: 'a number of 4 bytes', 'a day of 4 bytes', 'a title of 32 bytes', 'a start block of 16', 'none to 4,096 times .. 16 bytes', 'a 16-byte tag'
pub record Widths (p : Page) : Type 0 where
  pub number : p.number < 2 ^ 32
  pub day : p.day < 2 ^ 32
  pub title : length p.title ≡ 32
  pub start : length p.start ≡ 16
  pub whole : length p.sealed % 16 ≡ 0
  pub most : length p.sealed ≤ 16 * 4096
  pub tag : length p.tag ≡ 16

-- ---- the record of its parts

-- a command is its byte, and its operand behind it
abbrev pub command : ℕ → List ℕ → List ℕ
command c operand = c ∷ operand

-- 'a number of 4 bytes', 'a day of 4 bytes (both lowest byte first)'
unfoldable pub four_bytes : ℕ → List ℕ
four_bytes v = tabulate 4 (byte v)

-- m times '15 with 16 bytes', which stand one after another in s
unfoldable pub sealed_commands : ℕ → List ℕ → List ℕ
sealed_commands zero s = []
sealed_commands (suc m) s = command 0x15 (take 16 s) ++ sealed_commands m (drop 16 s)

-- 'all bytes before 1F': 'commands in this order: 10 with a number of 4 bytes, 11 with a day of 4 bytes .., 12 with a title of 32 bytes, 13
-- with a start block of 16, then none to 4,096 times 15 with 16 bytes sealed by CBC'
unfoldable pub front : Page → List ℕ
front p =
    command 0x10 (four_bytes p.number)
    ++ (command 0x11 (four_bytes p.day)
    ++ (command 0x12 p.title
    ++ (command 0x13 p.start
    ++ sealed_commands (length p.sealed / 16) p.sealed)))

-- the whole record: 'then 1F with a 16-byte tag'
unfoldable pub layout : Page → List ℕ
layout p = front p ++ command 0x1F p.tag

-- the length that it has with so many blocks
unfoldable pub record_length : ℕ → ℕ
record_length m = 77 + 17 * m

-- ---- reading a record

-- whether some bytes begin with the command c and its whole operand of w bytes
unfoldable pub begins : ℕ → ℕ → List ℕ → Bool
begins c w bytes = ltb w (length bytes) && eqb (get_or bytes 0 0) c

-- that operand, and the bytes behind the command
abbrev pub operand : ℕ → List ℕ → List ℕ
operand w bytes = take w (drop 1 bytes)

abbrev pub behind : ℕ → List ℕ → List ℕ
behind w bytes = drop (1 + w) bytes

-- the number that four bytes are, lowest first
unfoldable pub four_byte_number : List ℕ → ℕ
four_byte_number bytes = join 4 (λ i. get_or bytes i 0)

-- how many commands 15, each whole, some bytes begin with; no more than so many are taken
unfoldable pub times15 : ℕ → List ℕ → ℕ
times15 zero bytes = 0
times15 (suc most) bytes = when (begins 0x15 16 bytes) (suc (times15 most (behind 16 bytes))) 0

-- the operands of m commands 15, one after another
unfoldable pub sealed_operands : ℕ → List ℕ → List ℕ
sealed_operands zero bytes = []
sealed_operands (suc m) bytes = operand 16 bytes ++ sealed_operands m (behind 16 bytes)

-- the bytes behind each command of a record
abbrev pub behind10 : List ℕ → List ℕ
behind10 r = behind 4 r

abbrev pub behind11 : List ℕ → List ℕ
behind11 r = behind 4 (behind10 r)

abbrev pub behind12 : List ℕ → List ℕ
behind12 r = behind 32 (behind11 r)

abbrev pub behind13 : List ℕ → List ℕ
behind13 r = behind 16 (behind12 r)

-- the block count: 'none to 4,096 times 15'
unfoldable pub blocks : List ℕ → ℕ
blocks r = times15 4096 (behind13 r)

-- the bytes behind those commands 15, of 17 bytes each
unfoldable pub behind15 : List ℕ → List ℕ
behind15 r = drop (17 * blocks r) (behind13 r)

-- the commands before the blocks stand in this order, each whole
unfoldable pub headed : List ℕ → Bool
headed r = begins 0x10 4 r && (begins 0x11 4 (behind10 r) && (begins 0x12 32 (behind11 r) && begins 0x13 16 (behind12 r)))

-- behind the blocks stands the command 1F, whole, and nothing behind it
unfoldable pub ended : List ℕ → Bool
ended rest = begins 0x1F 16 rest && eqb (length rest) 17

-- whether r is a page record, and not 'any other layout'
unfoldable pub is_record : List ℕ → Bool
is_record r = headed r && ended (behind15 r)

-- its parts
unfoldable pub parts : List ℕ → Page
parts r =
    record {
      number = four_byte_number (operand 4 r);
      day = four_byte_number (operand 4 (behind10 r));
      title = operand 32 (behind11 r);
      start = operand 16 (behind12 r);
      sealed = sealed_operands (blocks r) (behind13 r);
      tag = operand 16 (behind15 r);
    }

-- ---- what the catalogue reader sees

-- a place that holds no byte of the start block, no sealed byte and none of the tag: the commands 10, 11 and 12 with their operands and the byte 13 are
-- bytes 0 to 43; then the byte 15 of each block, and 1F, stand 17 bytes apart from byte 60 on
pub data Shown : ℕ → Type 0 where
  first : {i : ℕ} → i < 44 → Shown i
  command_byte : (j : ℕ) → Shown (60 + 17 * j)

-- 'Records of one length that differ only in sealed bytes, start block or tag': any two lists of bytes of one length that agree in all other places
pub record Alike (r s : List ℕ) : Type 0 where
  pub long : length r ≡ length s
  pub shown : (i : ℕ) → Shown i → get_or r i 0 ≡ get_or s i 0

-- ---- sealed and tagged: over any sealing and opening after a start block, and any tag of 16 bytes

-- a page with its tag made 'of all bytes before 1F', whatever its tag was
unfoldable pub with_tag : (List ℕ → List ℕ) → Page → Page
with_tag tag p =
    record { number = p.number; day = p.day; title = p.title; start = p.start; sealed = p.sealed; tag = tag (front p) }

-- the page that the writer makes of what it is handed: the body sealed after the start block, then the tag
unfoldable pub sealed_page : (List ℕ → List ℕ → List ℕ) → (List ℕ → List ℕ) → ℕ → ℕ → List ℕ → List ℕ → List ℕ → Page
sealed_page seal tag number day title start text =
    with_tag tag (record { number = number; day = day; title = title; start = start; sealed = seal start text; tag = [] })

-- whether a page's tag is the one 'of all bytes before 1F'
unfoldable pub tagged : (List ℕ → List ℕ) → Page → Bool
tagged tag p = same (tag (front p)) p.tag

-- the body: the sealed blocks opened after the start block
unfoldable pub body : (List ℕ → List ℕ → List ℕ) → Page → List ℕ
body unseal p = unseal p.start p.sealed
