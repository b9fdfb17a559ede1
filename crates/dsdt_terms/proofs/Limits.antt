-- The most elements of each list of an accepted machine, and the most bytes that its devices are written in. A limit that is raised is
-- raised here.
use Rattle.std.proofs.Common.{ℕ, ◌+◌, ◌*◌}

abbrev pub most_cpus : ℕ
most_cpus = 4096

abbrev pub most_uarts : ℕ
most_uarts = 4

abbrev pub most_windows : ℕ
most_windows = 32

abbrev pub most_routes : ℕ
most_routes = 128

-- the longest item of a template, and the longest route of a table
abbrev pub item_size : ℕ
item_size = 46

abbrev pub route_size : ℕ
route_size = 42

abbrev pub cpu_size : ℕ
cpu_size = 33

abbrev pub uart_size : ℕ
uart_size = 151

abbrev pub clock_size : ℕ
clock_size = 137

abbrev pub keyboard_size : ℕ
keyboard_size = 183

abbrev pub timer_size : ℕ
timer_size = 91

abbrev pub generation_size : ℕ
generation_size = 75

abbrev pub bridge_size : ℕ
bridge_size = 144 + item_size * most_windows + route_size * most_routes

-- the devices of a machine that are the same wherever a file stands, all of them, and the scope of the system bus with them
abbrev pub placeless_size : ℕ
placeless_size = bridge_size + uart_size * most_uarts + clock_size + keyboard_size + timer_size + cpu_size * most_cpus

abbrev pub devices_size : ℕ
devices_size = placeless_size + generation_size

abbrev pub machine_size : ℕ
machine_size = devices_size + 10
