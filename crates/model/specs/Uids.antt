-- "UIDs are those printed in 002, 003 and 000", each as a number of 64 bits.
use Rattle.std.specs.Prelude.{ℕ, ◌+◌, ◌-◌, Bool, true, false, cond, eqb}
use Rattle.token.specs.Bytes.{within}
use Rattle.ranges.specs.Row.{row_count}
use Rattle.model.specs.Types.{Object, Who}
use Rattle.model.specs.declared.Object.TheVariants as O
use Rattle.model.specs.declared.Who.TheVariants as W
use Rattle.model.specs.Record.{admin_count, user_count}

-- the session manager: "seven bytes 00 then FF", and its methods
abbrev pub manager_uid : ℕ
manager_uid = 0xff

abbrev pub start_session : ℕ
start_session = 0xff02

abbrev pub sync_session : ℕ
sync_session = 0xff03

abbrev pub close_session : ℕ
close_session = 0xff06

-- SPs
abbrev pub this_sp : ℕ
this_sp = 0x0000000000000001

abbrev pub admin_sp : ℕ
admin_sp = 0x0000020500000001

abbrev pub locking_sp : ℕ
locking_sp = 0x0000020500000002

-- rows of the Admin SP
abbrev pub pin_sid : ℕ
pin_sid = 0x0000000b00000001

abbrev pub pin_msid : ℕ
pin_msid = 0x0000000b00008402

abbrev pub tper_info : ℕ
tper_info = 0x0000020100030001

-- authorities
abbrev pub anybody : ℕ
anybody = 0x0000000900000001

abbrev pub admins : ℕ
admins = 0x0000000900000002

abbrev pub sid : ℕ
sid = 0x0000000900000006

abbrev pub users : ℕ
users = 0x0000000900030000

-- "Admin k ends 00 01 00 0k and User k 00 03 00 0k, after 00 00 00 09 (authority) or 00 00 00 0B (C_PIN)"
abbrev pub admin_base : ℕ
admin_base = 0x0000000900010000

abbrev pub user_base : ℕ
user_base = 0x0000000900030000

abbrev pub admin_pin_base : ℕ
admin_pin_base = 0x0000000b00010000

abbrev pub user_pin_base : ℕ
user_pin_base = 0x0000000b00030000

-- "range k is 00 00 08 02 00 03 00 0k"
abbrev pub global_range : ℕ
global_range = 0x0000080200000001

abbrev pub range_base : ℕ
range_base = 0x0000080200030000

abbrev pub mbr_control : ℕ
mbr_control = 0x0000080300000001

-- "methods are 00 00 00 06 and then": their last four bytes
abbrev pub method_base : ℕ
method_base = 0x0000000600000000

abbrev pub get_method : ℕ
get_method = 0x16

abbrev pub set_method : ℕ
set_method = 0x17

abbrev pub authenticate_method : ℕ
authenticate_method = 0x1c

abbrev pub revert_sp_method : ℕ
revert_sp_method = 0x11

abbrev pub revert_method : ℕ
revert_method = 0x202

abbrev pub activate_method : ℕ
activate_method = 0x203

-- which method a UID names; 0 is none
unfoldable pub method_of : ℕ → ℕ
method_of u = cond (within method_base (method_base + 0xffffffff) u) (u - method_base) 0

-- the k that u is past base, where it is from 1 to count
abbrev pub nth : {A : Type 0} → ℕ → ℕ → ℕ → (ℕ → A) → A → A
nth base count u f z = cond (within (base + 1) (base + count) u) (f (u - base)) z

-- what a UID names in the Admin SP and in the Locking SP
unfoldable pub object_in : Bool → ℕ → Object
object_in false u =
    cond (eqb u this_sp) O.ThisSp
    (cond (eqb u pin_sid) O.PinSid
    (cond (eqb u pin_msid) O.PinMsid
    (cond (eqb u tper_info) O.TperInfo
    (cond (eqb u admin_sp) O.SpAdmin
    (cond (eqb u locking_sp) O.SpLocking
    O.Nothing)))))
object_in true u =
    cond (eqb u this_sp) O.ThisSp
    (nth admin_base admin_count u (λ k. O.Authority k)
    (nth user_base user_count u (λ k. O.Authority (admin_count + k))
    (nth admin_pin_base admin_count u (λ k. O.Pin k)
    (nth user_pin_base user_count u (λ k. O.Pin (admin_count + k))
    (cond (eqb u global_range) (O.Range 0)
    (nth range_base (row_count - 1) u (λ k. O.Range k)
    (cond (eqb u mbr_control) O.MbrControl
    O.Nothing)))))))

-- "Known authorities: Anybody and the class Admins in both SPs; SID in Admin; the class Users, Admin1-4 and User1-8 in Locking"
unfoldable pub who_in : Bool → ℕ → Who
who_in false u =
    cond (eqb u anybody) W.Anybody
    (cond (eqb u admins) W.Class
    (cond (eqb u sid) (W.Row 0)
    W.Unknown))
who_in true u =
    cond (eqb u anybody) W.Anybody
    (cond (eqb u admins) W.Class
    (cond (eqb u users) W.Class
    (nth admin_base admin_count u (λ k. W.Row k)
    (nth user_base user_count u (λ k. W.Row (admin_count + k))
    W.Unknown))))

-- the UID of an object of a session's SP
unfoldable pub uid_of : Object → ℕ
uid_of O.PinSid = pin_sid
uid_of O.PinMsid = pin_msid
uid_of O.TperInfo = tper_info
uid_of O.SpAdmin = admin_sp
uid_of O.SpLocking = locking_sp
uid_of O.ThisSp = this_sp
uid_of (O.Authority r) = cond (within 1 admin_count r) (admin_base + r) (user_base + (r - admin_count))
uid_of (O.Pin r) = cond (within 1 admin_count r) (admin_pin_base + r) (user_pin_base + (r - admin_count))
uid_of (O.Range k) = cond (eqb k 0) global_range (range_base + k)
uid_of O.MbrControl = mbr_control
uid_of O.Nothing = 0
