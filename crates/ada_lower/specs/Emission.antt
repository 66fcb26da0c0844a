-- What the law says of the code of a typed program beside what is emitted.
use Rattle.std.specs.Prelude.{ℕ, ◌+◌, ℤ, List, [], ◌∷◌, ◌++◌}
use Rattle.ada_base.specs.Image.{padded}
use Rattle.ada_meaning.specs.Values.{image_of}
use Rattle.typed_tree.specs.Syntax.{Pieces, NoPiece, Text, Image, Padded}
pub use Rattle.lower_emission.specs.Scope.{keep, keep_checked, array_root_of, thread_scope, set_instr}
pub use Rattle.lower_emission.specs.Emission.{lost, checked, load_by, load, load_named, load_where, address, is_whole, unary_instr, binary_instr, fixed_instr, static_instr, operated_by, compare_instr, falsity, truth, within, negated_code, Shape, lead, shape_by, shapes, shapes_cells, formal_cell, formals_or_none, first_parameter, leaving_by, range_scope, item_scope, counting, bounds_code, ascending, stepping, folding, ranged, reducing, combined, is_plain, is_repeated, doubled, filling, fillings, iterated_scope, turning, entering, entering_next, run_steps, run_turnings, turn_height, turnings, components_of, locating, locating_in, repeating, chunk_scope, loop_kind, folded_by, reduction_kind, raise_above, raise_beyond, ends_code, fork_code, turns_code, items_code, turn_item, turn_range, turn_component, cells_of, formals_in, formal_of, passing, composite_width, width, own_level, own_where, own_named, own_cell, indexed_by, item_by, main_level, main_named, component_address, component_value, check_instr}
unfoldable pub use Rattle.lower_emission.specs.Emission.{emit, named_value, selected, read, passed, put_into, composed, associated, component, filtered, iterated, chunk_code, course_code, threaded}
pub use Rattle.lower_emission.specs.Statements.{no_handler, is_end, store_checked, assigned, in_span, chosen, has_reason, handled_by, returning, returning_value, away, exiting, handled_target, image_instr, send_instr, width_of, piece_texts, object_here, stmt_exits, exits_of, case_exits, arm_exits, handler_exits, left_by, exit_code, exits_code, left_returns, is_own, left_code, field_defaults, default_of, defaults_within, subtype_or_none, defaulted, declared, back_one, back_cells, parallel_for, in_share, arms_code, chunk_by, arm_scope, parallel_block}
unfoldable pub use Rattle.lower_emission.specs.Statements.{back_code, piece_values, stmt, all, cases, handling, arm_codes}

-- what pieces put out, with these values
abbrev pub bytes_of : Pieces → List ℤ → List ℕ
bytes_of NoPiece vs = []
bytes_of (Text bytes rest) vs = bytes ++ bytes_of rest vs
bytes_of (Image class e rest) [] = []
bytes_of (Image class e rest) (v ∷ vs) = image_of class v ++ bytes_of rest vs
bytes_of (Padded class e width rest) [] = []
bytes_of (Padded class e width rest) (v ∷ vs) = padded v (width_of width) ++ bytes_of rest vs

abbrev pub piece_cells : Pieces → ℕ
piece_cells NoPiece = 0
piece_cells (Text bytes rest) = piece_cells rest
piece_cells (Image class e rest) = 1 + piece_cells rest
piece_cells (Padded class e width rest) = 1 + piece_cells rest
