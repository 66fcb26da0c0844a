-- Identifiers by numbers: those of the language (annex A, K) have the first, another has that of the first token
-- that is spelled like it, behind these.
use Rattle.name_rules.specs.declared.scope.Names.{Names}
use Rattle.std.specs.Prelude.{List, [], codes, pos, slice_get, unwrap_or, ℕ, ℤ, ◌∷◌}

abbrev pub symbol : Names → ℕ → ℕ
symbol names token = unwrap_or (slice_get names.symbols token) 0

abbrev pub number : Names → ℕ → ℤ
number names token = unwrap_or (slice_get names.values token) (pos 0)

abbrev pub text : Names → ℕ → List ℕ
text names token = unwrap_or (slice_get names.texts token) []

abbrev pub known : List (List ℕ)
known =
    codes "boolean" ∷ codes "true" ∷ codes "false" ∷ codes "integer" ∷ codes "natural" ∷ codes "positive"
    ∷ codes "constraint_error" ∷ codes "program_error" ∷ codes "storage_error" ∷ codes "ada" ∷ codes "text_io"
    ∷ codes "integer_text_io" ∷ codes "put" ∷ codes "put_line" ∷ codes "new_line" ∷ codes "get" ∷ codes "data_error"
    ∷ codes "end_error" ∷ codes "first" ∷ codes "last" ∷ codes "length" ∷ codes "image" ∷ codes "max" ∷ codes "min"
    ∷ codes "succ" ∷ codes "pred" ∷ codes "reduce" ∷ codes "parallel_reduce" ∷ codes "width"
    ∷ codes "conflict_check_policy" ∷ codes "all_parallel_conflict_checks" ∷ codes "all_conflict_checks"
    ∷ codes "known_parallel_conflict_checks" ∷ codes "nonblocking" ∷ []

abbrev pub boolean_name : ℕ
boolean_name = 0

abbrev pub true_name : ℕ
true_name = 1

abbrev pub false_name : ℕ
false_name = 2

abbrev pub integer_name : ℕ
integer_name = 3

abbrev pub natural_name : ℕ
natural_name = 4

abbrev pub positive_name : ℕ
positive_name = 5

abbrev pub constraint_error_name : ℕ
constraint_error_name = 6

abbrev pub program_error_name : ℕ
program_error_name = 7

abbrev pub storage_error_name : ℕ
storage_error_name = 8

abbrev pub ada_name : ℕ
ada_name = 9

abbrev pub text_io_name : ℕ
text_io_name = 10

abbrev pub integer_io_name : ℕ
integer_io_name = 11

abbrev pub put_name : ℕ
put_name = 12

abbrev pub put_line_name : ℕ
put_line_name = 13

abbrev pub new_line_name : ℕ
new_line_name = 14

abbrev pub get_name : ℕ
get_name = 15

abbrev pub data_error_name : ℕ
data_error_name = 16

abbrev pub end_error_name : ℕ
end_error_name = 17

abbrev pub first_name : ℕ
first_name = 18

abbrev pub last_name : ℕ
last_name = 19

abbrev pub length_name : ℕ
length_name = 20

abbrev pub image_name : ℕ
image_name = 21

abbrev pub max_name : ℕ
max_name = 22

abbrev pub min_name : ℕ
min_name = 23

abbrev pub succ_name : ℕ
succ_name = 24

abbrev pub pred_name : ℕ
pred_name = 25

abbrev pub reduce_name : ℕ
reduce_name = 26

abbrev pub parallel_reduce_name : ℕ
parallel_reduce_name = 27

abbrev pub width_name : ℕ
width_name = 28

abbrev pub policy_name : ℕ
policy_name = 29

abbrev pub all_parallel_policy : ℕ
all_parallel_policy = 30

abbrev pub all_policy : ℕ
all_policy = 31

abbrev pub known_parallel_policy : ℕ
known_parallel_policy = 32

abbrev pub nonblocking_name : ℕ
nonblocking_name = 33
