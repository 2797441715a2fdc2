-- The name of the process (struct elf_prpsinfo of the kernel, linux/elfcore.h).
--     process_name desc      that of which a note of the type NT_PRPSINFO tells
use Rattle.std.specs.Prelude.{ℕ, List, Option, option_map}
use Rattle.cfi_elf.specs.Fields.{part}
use Rattle.cfi_elf.specs.Fields.{until_zero}

-- pr_state, pr_sname, pr_zomb and pr_nice have a byte each; four bytes pad them; pr_flag has eight;
-- pr_uid, pr_gid, pr_pid, pr_ppid, pr_pgrp and pr_sid have four each; then, at 40, pr_fname has
-- sixteen, and ends before its first zero, if it has one
abbrev pub process_name : List ℕ → Option (List ℕ)
process_name desc = option_map until_zero (part desc 40 16)
