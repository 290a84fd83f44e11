-- How UTF-8 is read byte by byte.
use Rattle.std.specs.Prelude.{ℕ, ◌+◌, ◌*◌, ◌-◌, ◌<◌, ◌≤◌, ◌≡◌, ◌==◌, ◌&&◌, ◌++◌, List, [], ◌∷◌, length, Bool, true, false, cond, nat_lt, nat_le, ⊤, Option, None, Some, Result, Ok, Err}
use Rattle.std.specs.Str.{IsUtf8}
use lib.Utf8.{scalar, encode}
use Rattle.rdf_chars.specs.Utf8.{BeginsUtf8, IsUtf8Length}
use Rattle.rdf_chars.specs.declared.utf8.Step.{Step}
use Rattle.rdf_chars.specs.declared.utf8.Step.TheVariants.{Idle, Last, Two, Three, Bad}
use Rattle.rdf_chars.specs.declared.utf8.Pushed.{Pushed}
use Rattle.rdf_chars.specs.declared.utf8.Pushed.TheVariants.{Inside, Whole}
use Rattle.rdf_chars.specs.declared.utf8.BadUtf8.{BadUtf8}

-- What is kept: how much of a character is read, where it begins, and how many bytes came.
pub record Fed : Type 0 where
  pub step : Step
  pub from : ℕ
  pub count : ℕ

abbrev pub begun : ℕ → Pushed
begun t = cond (nat_lt t 128) (Whole t) (cond (nat_lt t 194) (Inside Bad) (cond (nat_lt t 224) (Inside (Last (t - 192)))
    (cond (t == 224) (Inside (Two 0 160 191)) (cond (t == 237) (Inside (Two 13 128 159))
    (cond (nat_lt t 240) (Inside (Two (t - 224) 128 191)) (cond (t == 240) (Inside (Three 0 144 191))
    (cond (nat_lt t 244) (Inside (Three (t - 240) 128 191)) (cond (t == 244) (Inside (Three 4 128 143)) (Inside Bad)))))))))

abbrev pub bits : ℕ → ℕ → ℕ
bits n t = n * 64 + (t - 128)

abbrev pub pushed : Step → ℕ → Pushed
pushed Idle t = begun t
pushed (Last n) t = cond (nat_le 128 t && nat_le t 191) (Whole (bits n t)) (Inside Bad)
pushed (Two n low high) t = cond (nat_le low t && nat_le t high) (Inside (Last (bits n t))) (Inside Bad)
pushed (Three n low high) t = cond (nat_le low t && nat_le t high) (Inside (Two (bits n t) 128 191)) (Inside Bad)
pushed Bad t = Inside Bad

abbrev pub fed_by : Pushed → Fed → Fed
fed_by (Whole c) v = record { step = Idle; from = v.count + 1; count = v.count + 1 }
fed_by (Inside s) v = record { step = s; from = v.from; count = v.count + 1 }

-- what is kept behind one more byte
abbrev pub fed : Fed → ℕ → Fed
fed v t = fed_by (pushed v.step t) v

-- and behind these bytes
abbrev pub fed_all : Fed → List ℕ → Fed
fed_all v [] = v
fed_all v (b ∷ bytes) = fed_all (fed v b) bytes

abbrev pub is_idle : Step → Bool
is_idle Idle = true
is_idle _ = false

abbrev pub is_bad : Step → Bool
is_bad Bad = true
is_bad _ = false

abbrev pub said_by : Pushed → ℕ → Result (Option ℕ) BadUtf8
said_by (Whole c) from = Ok (Some c)
said_by (Inside s) from = cond (is_bad s) (Err (record { at = from })) (Ok None)

-- what is said of one more byte
abbrev pub said : Fed → ℕ → Result (Option ℕ) BadUtf8
said v t = said_by (pushed v.step t) v.from

-- the numbers stay small, and some byte goes on
abbrev pub IsSmall : Step → Type 0
IsSmall (Last n) = n < 65536
IsSmall (Two n low high) = (n < 1000) × (low ≤ high)
IsSmall (Three n low high) = (n < 8) × (low ≤ high)
IsSmall _ = ⊤

abbrev pub IsSmallPushed : Pushed → Type 0
IsSmallPushed (Inside s) = IsSmall s
IsSmallPushed (Whole n) = ⊤

-- the bytes that end the character c
abbrev pub WantsOne : ℕ → List ℕ → ℕ → Type 0
WantsOne n r c = (b : ℕ) × (r ≡ b ∷ []) × (128 ≤ b) × (b ≤ 191) × (c ≡ bits n b)

abbrev pub WantsTwo : ℕ → ℕ → ℕ → List ℕ → ℕ → Type 0
WantsTwo n low high r c = (a : ℕ) × (rest : List ℕ) × (r ≡ a ∷ rest) × (low ≤ a) × (a ≤ high) × WantsOne (bits n a) rest c

abbrev pub Wants : Step → List ℕ → ℕ → Type 0
Wants (Last n) r c = WantsOne n r c
Wants (Two n low high) r c = WantsTwo n low high r c
Wants (Three n low high) r c = (a : ℕ) × (rest : List ℕ) × (r ≡ a ∷ rest) × (low ≤ a) × (a ≤ high) × WantsTwo (bits n a) 128 191 rest c
Wants _ r c = ⊥

-- and it ends no number but a character's
abbrev pub IsStep : Step → Type 0
IsStep s = IsSmall s × ((rest : List ℕ) (c : ℕ) → Wants s rest c → scalar c ≡ true)

abbrev pub IsPushed : Pushed → Type 0
IsPushed (Inside s) = IsStep s
IsPushed (Whole n) = scalar n ≡ true

-- The bytes are a front of an encoding, and the step says how it goes on.
pub record Opens (step : Step) (part : List ℕ) : Type 0 where
  pub some : 0 < length part
  pub leads : (rest : List ℕ) (c : ℕ) → scalar c ≡ true → encode c ≡ part ++ rest → Wants step rest c
  pub back : (rest : List ℕ) (c : ℕ) → Wants step rest c → (scalar c ≡ true) × (encode c ≡ part ++ rest)

abbrev pub Inner : Step → ℕ → List ℕ → Type 0
Inner Idle from bytes = IsUtf8 bytes × (from ≡ length bytes)
Inner Bad from bytes = (BeginsUtf8 bytes → ⊥) × IsUtf8Length bytes from
Inner step from bytes = (front : List ℕ) × (part : List ℕ) × (bytes ≡ front ++ part) × IsUtf8 front × (from ≡ length front) × Opens step part

-- What is kept stands for the bytes that came.
abbrev pub Stands : Fed → List ℕ → Type 0
Stands v bytes = (v.count ≡ length bytes) × Inner v.step v.from bytes

abbrev pub start : Fed
start = record { step = Idle; from = 0; count = 0 }

-- what is said where no more bytes come
abbrev pub ended : Fed → Result Unit BadUtf8
ended v = cond (is_idle v.step) (Ok tt) (Err (record { at = v.from }))
