-- What the values of options are.
use Rattle.std.specs.Prelude.{ℕ, zero, suc, ◌+◌, ◌&&◌, Bool, List, [], ◌∷◌, ◌++◌, length, take, drop, nat_le, ◌==◌, codes, Option, Some, None, option_map, option_and_then, if◌then◌else◌}
use Rattle.std.specs.List.{position}
use Rattle.std.specs.Str.{all_ascii_digits, bytes_eq}
use Rattle.std.specs.Str.Parse.{digits_value}
use Rattle.ada_base.specs.Cuts.{Plan, One, Even, Chunked, Listed}

-- one reading after another
infixl 10 ◌>>=◌
abbrev pub ◌>>=◌ : {X Y : Type 0} → Option X → (X → Option Y) → Option Y
x >>= f = option_and_then f x

-- ---- bounds

-- digits of a number, iterations of a chunk, chunks of a plan, and sizes of chunks that are listed
abbrev pub most_digits : ℕ
most_digits = 13

abbrev pub most_iterations : ℕ
most_iterations = 4294967295

abbrev pub most_chunks : ℕ
most_chunks = 4096

abbrev pub most_sizes : ℕ
most_sizes = 64

-- ---- numbers

-- so many decimal digits at most, and nothing else
abbrev pub is_number : List ℕ → Bool
is_number text = all_ascii_digits text && (nat_le 1 (length text) && nat_le (length text) most_digits)

abbrev pub written : List ℕ → Option ℕ
written text = if is_number text then Some (digits_value 10 text) else None

-- the number, where it is from the one bound to the other
abbrev pub within : ℕ → ℕ → ℕ → Option ℕ
within low high n = if nat_le low n && nat_le n high then Some n else None

abbrev pub number : ℕ → ℕ → List ℕ → Option ℕ
number low high text = written text >>= within low high

-- ---- plans

-- what stands before the first such byte, and what stands behind it
abbrev pub parts_at : ℕ → List ℕ → Option (List ℕ × List ℕ)
parts_at mark text = option_map (λ k. (take k text, drop (k + 1) text)) (position (λ b. b == mark) text)

-- a size of a chunk
abbrev pub size : List ℕ → Option ℕ
size = number 1 most_iterations

-- sizes, with one more behind them
abbrev pub with_size : List ℕ → List ℕ → Option (List ℕ)
with_size sizes text = size text >>= λ n. Some (sizes ++ n ∷ [])

-- the last size, or one with a comma (44) and others behind it
abbrev pub sizes_by : (List ℕ → List ℕ → Option (List ℕ)) → List ℕ → List ℕ → Option (List ℕ × List ℕ) → Option (List ℕ)
sizes_by others before text None = with_size before text
sizes_by others before text (Some parts) = with_size before parts.0 >>= λ sizes. others sizes parts.1

-- sizes with commas between them, at least one and no more than so many, behind those that came before
unfoldable pub sizes : ℕ → List ℕ → List ℕ → Option (List ℕ)
sizes zero before text = None
sizes (suc more) before text = sizes_by (λ so_far rest. sizes more so_far rest) before text (parts_at 44 text)

-- a plan with a number or with sizes, by its form
abbrev pub plan_of_form : List ℕ → List ℕ → Option Plan
plan_of_form form rest = if bytes_eq form (codes "even") then option_map Even (number 1 most_chunks rest)
    else if bytes_eq form (codes "sized") then option_map Chunked (size rest)
    else if bytes_eq form (codes "list") then option_map Listed (sizes most_sizes [] rest)
    else None

-- `one`, or a form with what stands behind its colon (58)
abbrev pub plan : List ℕ → Option Plan
plan text = if bytes_eq text (codes "one") then Some One
    else parts_at 58 text >>= λ parts. plan_of_form parts.0 parts.1
