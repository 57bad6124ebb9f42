-- Texts whose fields are separated by spaces, as other programs write them.
use Rattle.std.proofs.Common.{◌≡◌, [], codes, false, refl, true}
use Rattle.std.specs.Str.{chars}
use Rattle.csv_records.specs.Spaces.{tabbed_text}

-- the header has one word more than any record, so its last name is both words
sizes : tabbed_text true (codes "Filesystem  Size Mounted on\n/dev/sda1    20G /\ntmpfs       1.6G /run/user/0\n") ≡ codes "Filesystem\tSize\tMounted on\n/dev/sda1\t20G\t/\ntmpfs\t1.6G\t/run/user/0\n"
unfolding chars
sizes = refl

-- the last column takes the rest of a line, with its spaces; white space at the ends of a line doesn't count
processes : tabbed_text true (codes "  PID COMMAND\r\n    1 sh  -c \"a b\"\tc \r\n\r\n   20 ps\r\n") ≡ codes "PID\tCOMMAND\n1\tsh  -c \"a b\" c\n20\tps\n"
unfolding chars
processes = refl

-- a line may have fewer fields; a column stays if some line fills it
mounts : tabbed_text true (codes "NAME SIZE MOUNT\nsda   20G\n\nsda1  19G /\n") ≡ codes "NAME\tSIZE\tMOUNT\nsda\t20G\nsda1\t19G\t/\n"
unfolding chars
mounts = refl

-- a header alone has its own columns, and blank lines have none
header : tabbed_text true (codes " a  b c\n \n") ≡ codes "a\tb\tc\n"
unfolding chars
header = refl

-- the first column has no name if only the first line begins with a space, and has one field less
memory : tabbed_text true (codes "      total  used\nMem:     15     4\nSwap:     2\n") ≡ codes "\ttotal\tused\nMem:\t15\t4\nSwap:\t2\n"
unfolding chars
memory = refl

-- a first line such as `total 92` is the header, so the first file isn't; the line with the fewest fields says how many
-- columns there are
sizes_of_files : tabbed_text true (codes "total 4.0K\n-rw 1 a b\ndrw 2 c\n") ≡ codes "total 4.0K\n-rw\t1\ta b\ndrw\t2\tc\n"
unfolding chars
sizes_of_files = refl

-- without a header such a line is left out
only_files : tabbed_text false (codes "total 4.0K\n-rw 1 a b\ndrw 2 c\n") ≡ codes "-rw\t1\ta b\ndrw\t2\tc\n"
unfolding chars
only_files = refl

-- without a header no line says how many columns there are, so that the rest of each line is in the last of two or more
commits : tabbed_text false (codes "a1 one two\nb2 three\n") ≡ codes "a1\tone two\nb2\tthree\n"
unfolding chars
commits = refl

-- there are two columns, even if a line has one field
single_words : tabbed_text false (codes "a b c\nd\n") ≡ codes "a\tb c\nd\n"
unfolding chars
single_words = refl

-- fields below the places of a first line are cut there, also without a header
places : tabbed_text false (codes "a   b c   d\ne   f     g\n") ≡ codes "a\tb c\td\ne\tf\tg\n"
unfolding chars lib.Utf8.encode
places = refl

total_as_a_name : tabbed_text true (codes "total used\n1 2\n") ≡ codes "total\tused\n1\t2\n"
unfolding chars
total_as_a_name = refl

-- fields are below names that three spaces separate: names and fields have spaces, and a field is empty
containers : tabbed_text true (codes "ID X   PORTS    NAMES\na b             c\nd      80/tcp   e\tf\n") ≡ codes "ID X\tPORTS\tNAMES\na b\t\tc\nd\t80/tcp\te f\n"
unfolding chars lib.Utf8.encode
containers = refl

-- if a field is elsewhere, each run of spaces separates fields
elsewhere : tabbed_text true (codes "A B   C   D\n1 2   3    4\n") ≡ codes "A\tB\tC\tD\n1\t2\t3\t4\n"
unfolding chars
elsewhere = refl

blank : tabbed_text true (codes " \n\t\n") ≡ []
unfolding chars
blank = refl
