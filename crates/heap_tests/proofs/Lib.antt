mod Premises
