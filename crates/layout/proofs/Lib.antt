mod Masked
