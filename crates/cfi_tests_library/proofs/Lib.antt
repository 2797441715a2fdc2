mod Leb128
