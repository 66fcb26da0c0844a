-- The rows of stored runs, computed.
use Rattle.std.proofs.Common.{refl}
use Rattle.std.specs.Fmt.{digits}
use Rattle.ada_meaning.specs.Stored.{ret, bind, leaves, spent, reads, writes, elaborates, apart, turn, handles, puts, recalls, keeps, takes, rewinds, thread, par, look, misnoted, noted_thread, renotes, none_chosen, noted_par, noted_team}
use Rattle.ada_meaning.specs.StoredRows.{StoredRows, NotedRows, ChosenRows, CutRows, DeedsRow, TeamsRow, Soaks}

pub stored_rows : StoredRows
unfolding digits ret bind leaves spent reads writes elaborates apart turn handles puts recalls keeps takes rewinds thread par
stored_rows = (refl, refl, refl, refl, refl, refl, refl, refl, refl, refl, refl)

pub noted_rows : NotedRows
unfolding digits ret bind leaves spent reads writes elaborates apart turn handles puts recalls keeps takes rewinds thread par look misnoted noted_thread renotes none_chosen noted_par noted_team
noted_rows = (refl, refl, refl, refl, refl, refl, refl, refl, refl)

pub chosen_rows : ChosenRows
unfolding digits ret bind leaves spent reads writes elaborates apart turn handles puts recalls keeps takes rewinds thread par look misnoted noted_thread renotes none_chosen noted_par noted_team
chosen_rows = (refl, refl, refl, refl, refl, refl, refl, refl, refl, refl)

pub cut_rows : CutRows
unfolding digits ret bind leaves spent reads writes elaborates apart turn handles puts recalls keeps takes rewinds thread par look misnoted noted_thread renotes none_chosen noted_par noted_team
cut_rows = (refl, refl, refl, refl, refl)

pub deeds_row : DeedsRow
unfolding digits ret bind leaves spent reads writes elaborates apart turn handles puts recalls keeps takes rewinds thread par
deeds_row = refl

pub teams_row : TeamsRow
unfolding digits ret bind leaves spent reads writes elaborates apart turn handles puts recalls keeps takes rewinds thread par look misnoted noted_thread renotes none_chosen noted_par noted_team
teams_row = refl

pub soaks : Soaks
unfolding digits ret bind leaves spent reads writes elaborates apart turn handles puts recalls keeps takes rewinds thread par
soaks = refl
