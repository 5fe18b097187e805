-- "The access rows are one fixed table; a pair of object and method not in it is NOT_AUTHORIZED."
use Rattle.std.specs.Prelude.{ℕ, zero, suc, ◌+◌, ◌^◌, ◌/◌, ◌%◌, Bool, true, false, ◌&&◌, ◌||◌, cond, List, [], ◌∷◌, eqb}
use Rattle.token.specs.Bytes.{within}
use Rattle.model.specs.Types.{Session, Object, Access}
use Rattle.model.specs.declared.Object.TheVariants as O
use Rattle.model.specs.Record.{admin_count, proved_at}
use Rattle.model.specs.Uids as U

-- an object's kind, as a number: Admin1's authority and the global range have rows of their own
abbrev pub k_pin_sid : ℕ
k_pin_sid = 1

abbrev pub k_pin_msid : ℕ
k_pin_msid = 2

abbrev pub k_tper_info : ℕ
k_tper_info = 3

abbrev pub k_sp_admin : ℕ
k_sp_admin = 4

abbrev pub k_sp_locking : ℕ
k_sp_locking = 5

abbrev pub k_this_admin : ℕ
k_this_admin = 6

abbrev pub k_this_locking : ℕ
k_this_locking = 7

abbrev pub k_admin1 : ℕ
k_admin1 = 8

abbrev pub k_authority : ℕ
k_authority = 9

abbrev pub k_pin_admin : ℕ
k_pin_admin = 10

abbrev pub k_pin_user : ℕ
k_pin_user = 11

abbrev pub k_global : ℕ
k_global = 12

abbrev pub k_range : ℕ
k_range = 13

abbrev pub k_mbr_control : ℕ
k_mbr_control = 14

unfoldable pub kind_of : Bool → Object → ℕ
kind_of locking O.PinSid = k_pin_sid
kind_of locking O.PinMsid = k_pin_msid
kind_of locking O.TperInfo = k_tper_info
kind_of locking O.SpAdmin = k_sp_admin
kind_of locking O.SpLocking = k_sp_locking
kind_of locking O.ThisSp = cond locking k_this_locking k_this_admin
kind_of locking (O.Authority r) = cond (eqb r 1) k_admin1 k_authority
kind_of locking (O.Pin r) = cond (within 1 admin_count r) k_pin_admin k_pin_user
kind_of locking (O.Range k) = cond (eqb k 0) k_global k_range
kind_of locking O.MbrControl = k_mbr_control
kind_of locking O.Nothing = 0

-- classes of authorities
abbrev pub anyone : ℕ
anyone = 0

abbrev pub by_sid : ℕ
by_sid = 1

abbrev pub by_admins : ℕ
by_admins = 2

abbrev pub by_user : ℕ
by_user = 3

-- a set of columns as bits
abbrev pub columns : List ℕ → ℕ
columns [] = 0
columns (c ∷ l) = 2 ^ c + columns l

abbrev pub has_column : ℕ → ℕ → Bool
has_column m c = eqb (m / 2 ^ c % 2) 1

abbrev pub row : ℕ → ℕ → ℕ → List ℕ → Access
row k m w l = record { kind = k; method = m; who = w; columns = columns l }

unfoldable pub access_rows : List Access
access_rows =
    row k_pin_sid U.get_method by_sid (0 ∷ 5 ∷ 6 ∷ 7 ∷ [])
    ∷ row k_pin_sid U.set_method by_sid (3 ∷ [])
    ∷ row k_pin_msid U.get_method anyone (0 ∷ 3 ∷ [])
    ∷ row k_tper_info U.get_method anyone (0 ∷ 8 ∷ [])
    ∷ row k_tper_info U.set_method by_sid (8 ∷ [])
    ∷ row k_sp_admin U.get_method anyone (0 ∷ 6 ∷ [])
    ∷ row k_sp_locking U.get_method anyone (0 ∷ 6 ∷ [])
    ∷ row k_sp_locking U.activate_method by_sid []
    ∷ row k_sp_admin U.revert_method by_sid []
    ∷ row k_sp_locking U.revert_method by_sid []
    ∷ row k_this_admin U.authenticate_method anyone []
    ∷ row k_admin1 U.get_method by_admins (0 ∷ 5 ∷ [])
    ∷ row k_authority U.get_method by_admins (0 ∷ 5 ∷ [])
    ∷ row k_authority U.set_method by_admins (5 ∷ [])
    ∷ row k_pin_admin U.get_method by_admins (0 ∷ 5 ∷ 6 ∷ 7 ∷ [])
    ∷ row k_pin_user U.get_method by_admins (0 ∷ 5 ∷ 6 ∷ 7 ∷ [])
    ∷ row k_pin_admin U.set_method by_admins (3 ∷ [])
    ∷ row k_pin_user U.set_method by_admins (3 ∷ [])
    ∷ row k_pin_user U.set_method by_user (3 ∷ [])
    ∷ row k_global U.get_method anyone (0 ∷ [])
    ∷ row k_global U.get_method by_admins (3 ∷ 4 ∷ 5 ∷ 6 ∷ 7 ∷ 8 ∷ 9 ∷ [])
    ∷ row k_range U.get_method anyone (0 ∷ [])
    ∷ row k_range U.get_method by_admins (3 ∷ 4 ∷ 5 ∷ 6 ∷ 7 ∷ 8 ∷ 9 ∷ [])
    ∷ row k_global U.set_method by_admins (5 ∷ 6 ∷ 7 ∷ 8 ∷ 9 ∷ [])
    ∷ row k_range U.set_method by_admins (3 ∷ 4 ∷ 5 ∷ 6 ∷ 7 ∷ 8 ∷ 9 ∷ [])
    ∷ row k_mbr_control U.get_method anyone (0 ∷ 1 ∷ 2 ∷ 3 ∷ [])
    ∷ row k_mbr_control U.set_method by_admins (1 ∷ 2 ∷ 3 ∷ [])
    ∷ row k_this_locking U.revert_sp_method by_admins []
    ∷ row k_this_locking U.authenticate_method anyone []
    ∷ []

-- "Admins means any of Admin1-4 proved", "a user's also by that user"
unfoldable pub any_proved : Session → ℕ → Bool
any_proved s zero = false
any_proved s (suc r) = proved_at s (suc r) || any_proved s r

unfoldable pub holds : Session → ℕ → ℕ → Bool
holds s self w =
    cond (eqb w anyone) true
    (cond (eqb w by_sid) (proved_at s 0)
    (cond (eqb w by_admins) (any_proved s admin_count)
    (proved_at s self)))

-- whose PIN row an object is
unfoldable pub self_of : Object → ℕ
self_of O.PinSid = 0
self_of O.PinMsid = 0
self_of O.TperInfo = 0
self_of O.SpAdmin = 0
self_of O.SpLocking = 0
self_of O.ThisSp = 0
self_of (O.Authority r) = r
self_of (O.Pin r) = r
self_of (O.Range k) = 0
self_of O.MbrControl = 0
self_of O.Nothing = 0

-- a test at each row of the table
unfoldable pub some_row : (Access → Bool) → List Access → Bool
some_row f [] = false
some_row f (a ∷ l) = f a || some_row f l

abbrev pub is_for : ℕ → ℕ → Access → Bool
is_for k m a = eqb a.kind k && eqb a.method m

-- the pair is in the table
abbrev pub in_table : Session → Object → ℕ → Bool
in_table s o m = some_row (is_for (kind_of s.locking o) m) access_rows

-- and a row of it holds for the session: at all, and for a column
abbrev pub allowed : Session → Object → ℕ → Bool
allowed s o m = some_row (λ a. is_for (kind_of s.locking o) m a && holds s (self_of o) a.who) access_rows

abbrev pub allowed_column : Session → Object → ℕ → ℕ → Bool
allowed_column s o m c = some_row (λ a. is_for (kind_of s.locking o) m a && (holds s (self_of o) a.who && has_column a.columns c)) access_rows

-- the last column that is known: "in neither 003's table nor these rows" is unknown
unfoldable pub last_column : Object → ℕ
last_column O.PinSid = 7
last_column O.PinMsid = 7
last_column O.TperInfo = 8
last_column O.SpAdmin = 7
last_column O.SpLocking = 7
last_column O.ThisSp = 0
last_column (O.Authority r) = 18
last_column (O.Pin r) = 7
last_column (O.Range k) = 19
last_column O.MbrControl = 3
last_column O.Nothing = 0
